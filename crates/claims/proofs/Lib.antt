pub mod RuleClaims
pub mod KeptClaims
pub mod Claimants
pub mod FirstConjuncts
pub mod OverrunRules
pub mod OverrunSets
pub mod Findings
