pub mod Formulas
pub mod Printed
