pub mod NanBits
