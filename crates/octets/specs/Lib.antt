pub mod BigEndian
pub mod Tests
