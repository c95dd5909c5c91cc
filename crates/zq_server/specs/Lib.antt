pub use Rattle.zq_drill.specs.Report
pub use Rattle.zq_session.specs.Piped
pub use Rattle.zq_session.specs.Plain
pub use Rattle.zq_session.specs.Session
pub use Rattle.zq_settings.specs.Texts
pub use Rattle.zq_settings.specs.Words
