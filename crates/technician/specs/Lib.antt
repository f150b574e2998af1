pub mod Technician
pub mod TechnicianLaws
