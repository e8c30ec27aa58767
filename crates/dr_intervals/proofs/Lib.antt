pub mod PrintableIntervals
