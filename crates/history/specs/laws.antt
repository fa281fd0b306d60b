-- Laws of the plain list and of calls; the cases computed.
pub mod PlainIs
pub mod PlainLaws
pub mod CallLaws
pub mod CasesHold
pub mod WrongAnswersRuledOut
