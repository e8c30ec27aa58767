pub mod CountsLine
