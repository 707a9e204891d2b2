pub mod WitnessFacts
pub mod CertificateFacts
pub mod ReleaseFacts
pub mod ViewFacts
