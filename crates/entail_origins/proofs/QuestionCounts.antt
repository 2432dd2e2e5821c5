-- A statement has as many questions as entailments of its own.
use Rattle.std.proofs.Common.{◌≡◌, ℕ, length, sym}
use Rattle.std.proofs.lemmas.Slice.Zip.{AllZip-long}
use Rattle.cov_ast.specs.Plain.{Plain}
use Rattle.cov_ast.specs.Syntax.{Stm}
use Rattle.point_law.specs.Point.{Point}
use Rattle.entail_origins.specs.OwnEntailments.{own_entailments}
use Rattle.entail_origins.specs.Questions.{questions}
use Rattle.entail_origins.proofs.QuestionsInStep.{IsAsked, in_step}

pub as_many : (p : Plain) (t : ℕ) (s : Stm) (a : Point) → length (questions p t a.held s) ≡ length (own_entailments p t s a)
as_many p t s a = sym (AllZip-long (IsAsked p t s a) (questions p t a.held s) (own_entailments p t s a) (in_step p t s a))
