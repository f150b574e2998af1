pub mod PeriodFaults
