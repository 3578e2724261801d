pub mod Deliveries
pub mod DeliveriesLaws
pub mod Greatest
