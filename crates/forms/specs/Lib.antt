pub mod Form
pub mod FormCalls
pub mod FormCauses
pub mod Calls
pub mod FormRows
pub mod NormalDomain
