pub mod Prepared
pub mod Printed
pub mod Run
