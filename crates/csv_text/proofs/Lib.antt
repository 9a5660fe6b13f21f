pub mod Bytes
pub mod BothWays
pub mod Quotients
pub mod FewDigits
pub mod NumeralLaws
pub mod RecordLaws
pub mod TextAnswers
