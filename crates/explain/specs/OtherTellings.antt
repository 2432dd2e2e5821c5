-- What was asked where a refusal is by V9, and what is told beside one by V9 or V13 of its thread and of those behind it: of the first refusal of each by a rule that isn't about certificates, and of the other entailments that
-- have no valid certificate. Of one for which a certificate is found that is told in short, behind the others; of each of these it is told as of the first, up to so many.
use Rattle.std.specs.Prelude.{ℕ, ◌-◌, ◌==◌, List, [], ◌∷◌, ◌++◌, Bool, true, false, Option, Some, length, take, flat_map, codes, decimal, if◌then◌else◌}
use Rattle.cov_ast.specs.Syntax.{Program}
use Rattle.cov_ast.specs.declared.refusal.Refusal.{Refusal}
use Rattle.cov_ast.specs.declared.refusal.Rule.{Rule}
use Rattle.cov_ast.specs.declared.refusal.Rule.TheVariants.{V13}
use Rattle.call_judge.specs.Check.{name_in}
use Rattle.call_reports.specs.Replies.{refused}
use Rattle.call_reports.specs.Reports.{report_of}
use Rattle.entail_refused.specs.Asked.{asked}
use Rattle.entail_refused.specs.OtherRefusals.{other_refusals}
use Rattle.entail_refused.specs.Suggested.{found_among, open_among}
use Rattle.entail_refused.specs.declared.suggested.Found.{Found}
use Rattle.explain.specs.Explanations.{explanation, where_is}
use Rattle.refusal_names.specs.RefusalNames.{refusal_names}
use Rattle.text_parts.specs.Lines.{line}
use Rattle.explain.specs.declared.others.TheConstants.{MOST_SOUGHT, MOST_TOLD}

-- One refusal --------------------------------------------------------------------------------------------------

-- the explanation, and what it is about, by name, or what was asked
unfoldable pub refusal_text : (name bytes : List ℕ) → Program → Refusal → List ℕ
refusal_text name bytes p r =
    explanation name bytes (refused r (name_in p.threads r.thread))
    ++ (refusal_names p bytes r.rule r.thread r.place r.detail ++ asked p bytes r.rule r.thread r.place r.detail)

-- in short: where it is and the report of `check`, and the certificate that is found
unfoldable pub brief_text : (name bytes : List ℕ) → Program → Found → List ℕ
brief_text name bytes p f =
    where_is name bytes f.refusal.place ++ (report_of (refused f.refusal (name_in p.threads f.refusal.thread)) ++ (codes "  suggestion:   " ++ (f.entry ++ codes "\n")))

-- Several ------------------------------------------------------------------------------------------------------

-- those that are told in short, if there are any
abbrev pub suggested_head : List ℕ
suggested_head = codes "a certificate is found for each of these, and goes into the `by` of its statement, in the place of one that it gives for this number; `suggest` writes such into the program\n"

unfoldable pub suggested_lines : (name bytes : List ℕ) → Program → List Found → List ℕ
suggested_lines name bytes p found = if length found == 0 then [] else suggested_head ++ flat_map (brief_text name bytes p) found

-- how many there are besides, if there are any: of those for which none is found, and of those for which none is sought
abbrev pub left_line : ℕ → List ℕ
left_line n = if n == 0 then [] else codes "and as many more refusals: " ++ (decimal n ++ codes "\n")

abbrev pub unsought_line : ℕ → List ℕ
unsought_line n = if n == 0 then [] else codes "and as many more that weren't looked at: " ++ (decimal n ++ codes "\n")

-- the first of those for which none is found, and how many there are besides
unfoldable pub open_lines : (name bytes : List ℕ) → Program → List Refusal → List ℕ
open_lines name bytes p rs = flat_map (refusal_text name bytes p) (take MOST_TOLD rs) ++ left_line (length rs - MOST_TOLD)

-- whether two refusals are of one thread
abbrev pub is_of_thread : (t u : Option ℕ) → Bool
is_of_thread (Some t) (Some u) = t == u
is_of_thread t u = false

-- another place to look at first, of the same thread or of one behind it
abbrev pub look_end : (is_own : Bool) → List ℕ
look_end is_own =
    if is_own then codes ", for which no certificate is found: what is mended there may move the numbers of this one\n"
    else codes ", in another thread, for which no certificate is found\n"

-- the line of a place, or that it is that of the same statement
abbrev pub other_place : (bytes : List ℕ) → (own place : ℕ) → List ℕ
other_place bytes own place = if own == place then codes "the next refusal of this statement" else codes "line " ++ decimal (line bytes place)

abbrev pub look_text : (bytes : List ℕ) → (is_own : Bool) → (own place : ℕ) → List ℕ
look_text bytes is_own own place = codes "  look first at " ++ (other_place bytes own place ++ look_end is_own)

abbrev pub look_if_own : (bytes : List ℕ) → (is_own : Bool) → (own place : ℕ) → List ℕ
look_if_own bytes is_own own place = if is_own then look_text bytes is_own own place else []

-- whether a rule is about the numbers of certificates
abbrev pub is_of_numbers : Rule → Bool
is_of_numbers V13 = true
is_of_numbers rule = false

-- that, where of a refusal itself nothing is wanted but a certificate, or the number of one is wrong and the place is of the same thread
unfoldable pub look_unless_open : (bytes : List ℕ) → (is_own : Bool) → Program → Refusal → (place : ℕ) → List ℕ
look_unless_open bytes is_own p r place =
    if is_of_numbers r.rule then look_if_own bytes is_own r.place place
    else (if length (found_among p (r ∷ [])) == 0 then [] else look_text bytes is_own r.place place)

-- that place is the first of those for which none is found, if there is one
abbrev pub look_line : (bytes : List ℕ) → Program → Refusal → (others : List Refusal) → List ℕ
look_line bytes p r [] = []
look_line bytes p r (o ∷ os) = look_unless_open bytes (is_of_thread o.thread r.thread) p r o.place

-- which is to be looked at first, what was asked, and what is told of those that are looked at beside the refusal
unfoldable pub sought_lines : (name bytes : List ℕ) → Program → Refusal → List Refusal → List ℕ
sought_lines name bytes p r rs =
    look_line bytes p r (open_among p rs)
    ++ (asked p bytes r.rule r.thread r.place r.detail ++ (open_lines name bytes p (open_among p rs) ++ suggested_lines name bytes p (found_among p rs)))

-- of all
unfoldable pub lines_of : (name bytes : List ℕ) → Program → Refusal → List Refusal → List ℕ
lines_of name bytes p r rs = sought_lines name bytes p r (take MOST_SOUGHT rs) ++ unsought_line (length rs - MOST_SOUGHT)

unfoldable pub told_with_others : (name bytes : List ℕ) → Program → Refusal → List ℕ
told_with_others name bytes p r = lines_of name bytes p r (other_refusals p r)

-- of a refusal of a program what was asked, and what is told of others beside it, unless the first alone is told
abbrev pub asked_with_others : (first : Bool) → (name bytes : List ℕ) → Program → Refusal → List ℕ
asked_with_others true name bytes p r = asked p bytes r.rule r.thread r.place r.detail
asked_with_others false name bytes p r = told_with_others name bytes p r
