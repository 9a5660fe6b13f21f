pub mod TailRows
pub mod StoreRows
pub mod StoreCases
