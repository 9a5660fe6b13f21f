pub mod MergedBars
