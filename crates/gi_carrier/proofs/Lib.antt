pub mod CarrierLaws
