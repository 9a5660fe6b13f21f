pub mod ScanPlaces
pub mod Marks
pub mod ScanSteps
pub mod ScanViews
pub mod ScanWindows
pub mod ScanFound
