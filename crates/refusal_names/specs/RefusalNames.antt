-- What a refusal is about, by name: by its rule, its thread, its place, at which a statement stands, and what it shows.
use Rattle.std.specs.Prelude.{ℕ, nat_lt, List, [], ◌++◌, Bool, false, true, length, if◌then◌else◌, Option, Some, None}
use Rattle.cov_ast.specs.Plain.{plain}
use Rattle.cov_ast.specs.Syntax.{Program, Stm, Proof}
use Rattle.cov_ast.specs.declared.refusal.Rule.{Rule}
use Rattle.cov_ast.specs.declared.refusal.Rule.TheVariants.{V1, V2, V3, V4, V5, V8, V10, V12, V13, V14, V15, V16, W8, W9}
use Rattle.cov_ast.specs.declared.refusal.Detail.{Detail}
use Rattle.cov_ast.specs.declared.refusal.Detail.TheVariants.{Three, Two}
use Rattle.point_law.specs.Point.{controls_of}
use Rattle.entail_origins.specs.Questions.{questions}
use Rattle.text_parts.specs.VariableNames.{variable_names}
use Rattle.cov_ast.specs.LocksAlong.{no_locks}
use Rattle.statement_paths.specs.LocksHeld.{held_along}
use Rattle.statement_paths.specs.VariableSets.{hidden, stable}
use Rattle.mode_compat.specs.Compatible.{numbered}
use Rattle.refusal_names.specs.ForbiddenAccess.{shown_access}
use Rattle.refusal_names.specs.GivenNumbers.{shown_number}
use Rattle.refusal_names.specs.GivenTypes.{shown_line}
use Rattle.refusal_names.specs.LargeTerms.{large_line}
use Rattle.refusal_names.specs.LockedControls.{control_line}
use Rattle.refusal_names.specs.MissingGuarantees.{guarantee_line}
use Rattle.refusal_names.specs.NameLines.{reads_line, types_line, ends_line, predicates_line, added_line}
use Rattle.refusal_names.specs.SpokenParts.{evaluated_expression}
use Rattle.refusal_names.specs.StableSets.{stable_controls, held_where_stated}
use Rattle.refusal_names.specs.UnaskedStores.{unasked_line}
use Rattle.refusal_names.specs.UnstableVariables.{shown_cause, unstable_line, unstable_part_line}
use Rattle.refusal_names.specs.WideExpressions.{width_line}
use Rattle.statement_paths.specs.Paths.{Step, Way, way_to}

-- Of a statement of a thread and its proofs, behind steps, by the locks that are held in front of it, and by what the refusal shows. The bytes are those of
-- the program's text.
abbrev pub line_of : Program → (bytes : List ℕ) → (t : ℕ) → Rule → Detail → List Step → (held : List Bool) → Stm → List Proof → List ℕ
line_of p bytes t V1 detail steps held s proofs = shown_access (variable_names p.vars) bytes (numbered p t) p.locks held false detail
line_of p bytes t V2 detail steps held s proofs = shown_access (variable_names p.vars) bytes (numbered p t) p.locks held true detail
line_of p bytes t V3 detail steps held s proofs =
    let names = variable_names p.vars in
    reads_line names (unstable_line names bytes p.locks held) (stable (plain p) t held) (evaluated_expression s)
line_of p bytes t V4 detail steps held s proofs =
    let there = held_where_stated s held in
    let names = variable_names p.vars in
    types_line (plain p) names (unstable_line names bytes p.locks there) (stable (plain p) t there) (controls_of (plain p)) (stable_controls (plain p) t there) s
line_of p bytes t V5 detail steps held s proofs =
    let names = variable_names p.vars in
    shown_cause names (unstable_part_line names bytes p.locks held) detail
line_of p bytes t V8 detail steps held s proofs = ends_line bytes p.locks held s
line_of p bytes t V10 detail steps held s proofs = width_line (evaluated_expression s)
line_of p bytes t V12 detail steps held s proofs =
    let there = held_where_stated s held in
    let names = variable_names p.vars in
    predicates_line names (unstable_line names bytes p.locks there) (stable (plain p) t there) s
line_of p bytes t V13 detail steps held s proofs = shown_number (length (questions (plain p) t held s)) proofs detail
line_of p bytes t V14 detail steps held s proofs =
    let there = held_where_stated s held in
    let names = variable_names p.vars in
    shown_line names (unstable_line names bytes p.locks there) (stable (plain p) t there) (controls_of (plain p)) s detail
line_of p bytes t V15 detail steps held s proofs = added_line (plain p) (variable_names p.vars) s
line_of p bytes t V16 detail steps held s proofs = large_line p.vars (variable_names p.vars) bytes (hidden (plain p) t held) steps s
line_of p bytes t rule detail steps held s proofs = []

-- of the statement at the end of a way, if there is one, and behind it that nothing is asked of it
abbrev pub line_of_way : Program → (bytes : List ℕ) → (t : ℕ) → Rule → Detail → Option Way → List ℕ
line_of_way p bytes t rule detail None = []
line_of_way p bytes t rule detail (Some w) =
    let held = held_along w.steps (no_locks (plain p)) in
    line_of p bytes t rule detail w.steps held w.stm w.proofs ++ unasked_line p t rule held w.stm

-- of the statement at a place of a thread, where the program has so many threads
abbrev pub line_at : Program → (bytes : List ℕ) → (t : ℕ) → Rule → (place : ℕ) → Detail → List ℕ
line_at p bytes t rule place detail = if nat_lt t (length p.threads) then line_of_way p bytes t rule detail (way_to (numbered p t).body place) else []

-- of the declarations, by the names that the refusal shows
abbrev pub line_of_declarations : Program → (bytes : List ℕ) → Rule → Detail → List ℕ
line_of_declarations p bytes W8 (Two variable control) = control_line p bytes variable control
line_of_declarations p bytes W9 (Three assuming other variable) = guarantee_line p bytes assuming other variable
line_of_declarations p bytes rule detail = []

-- the line of a refusal; none where it names no thread and isn't one of W8 and W9, no statement, or another rule
abbrev pub refusal_names : Program → (bytes : List ℕ) → Rule → (thread : Option ℕ) → (place : ℕ) → Detail → List ℕ
refusal_names p bytes rule None place detail = line_of_declarations p bytes rule detail
refusal_names p bytes rule (Some t) place detail = line_at p bytes t rule place detail
