-- Laws of the code of expressions: what is added for an operator, part by part.
use Rattle.std.proofs.Common.{◌≡◌, ℕ, suc, ◌+◌, ◌<◌, ◌≤◌, List, [], ◌∷◌, ◌++◌, Bool, length, get_or, set, map, refl, sym, ◌∙◌, ap, ap₂, subst, arith, append_assoc, add-one}
use Rattle.std.proofs.Math.Seq.{get_or-append_seam, set-append_seam}
use Rattle.std.proofs.lemmas.List.{append-nil}
use Rattle.cov_expr.specs.Term.{Term, const, var, neg, bin}
use Rattle.cov_expr.specs.Trees.{nodes, occurrences, width}
use Rattle.cov_expr.specs.declared.expr.Op.{Op}
use Rattle.mode_state.specs.Sets.{is_stable}
use Rattle.regalloc.specs.Plan.{Plan}
use Rattle.compiled_code.specs.Compiled.{expr_plan, expr_register, expr_room, fetch_instrs, fetch_plan, line, load_unstable, part_register, term_instrs, unstable_of, weigh}
use Rattle.risc_compile.specs.Inside.{WhereStable, after_expression, fetched, with_instrs, with_lines, with_room}
use Rattle.risc_compile.specs.declared.emitter.Emitter.{Emitter}
use Rattle.risc_compile.proofs.PlanLaws.{fetch_instrs_append, fetch_plan_append}
use Rattle.risc_machine.specs.declared.parts.Instr.{Instr}
use Rattle.risc_machine.specs.declared.parts.Instr.TheVariants.{Bin}
use Rattle.risc_machine.specs.declared.parts.Line.{Line}

-- Sizes ----------------------------------------------------------------------------------------------------------

-- an expression has a node, and needs no more registers than nodes
sized : (e : Term) → (1 ≤ nodes e) × (width e ≤ nodes e)
sized (const k) = (omega arith, omega arith)
sized (var x) = (omega arith, omega arith)
sized (neg e) = (omega arith, omega (arith, (sized e).0, (sized e).1))
sized (bin op a b) = (omega arith, omega (arith, (sized a).1, (sized b).1))

pub wide_nodes : (e : Term) → width e ≤ nodes e
wide_nodes e = (sized e).1

-- Lines ----------------------------------------------------------------------------------------------------------

map_append : (a b : List Instr) → map (line 0) (a ++ b) ≡ map (line 0) a ++ map (line 0) b
map_append [] b = refl
map_append (i ∷ a) b = ap (λ (ls : List Line). line 0 i ∷ ls) (map_append a b)

-- Lines of instructions of which the first gets the weight 1.
pub weighed_first : (before : List Line) (instrs : List Instr) (lines : List Line) (i : ℕ) (l d : Line) → lines ≡ before ++ map (line 0) instrs → i ≡ length before → i < length lines
    → l ≡ line 1 (get_or lines i d).instr → set lines i l ≡ before ++ weigh instrs
weighed_first before instrs lines i l d is at inside item = go instrs is
  where
    item_at : (c : Instr) (cs : List Instr) → lines ≡ before ++ line 0 c ∷ map (line 0) cs → l ≡ line 1 c
    item_at c cs e = item ∙ ap (λ (k : Line). line 1 k.instr) (ap₂ (λ (ls : List Line) (k : ℕ). get_or ls k d) e at ∙ get_or-append_seam before (line 0 c) (map (line 0) cs) d)

    go : (cs : List Instr) → lines ≡ before ++ map (line 0) cs → set lines i l ≡ before ++ weigh cs
    go [] e = absurd (omega (arith, ap length (e ∙ append-nil before)))
    go (c ∷ cs) e = ap₂ (λ (ls : List Line) (k : ℕ). set ls k l) e at ∙ set-append_seam before (line 0 c) (map (line 0) cs) l ∙ ap (λ (k : Line). before ++ k ∷ map (line 0) cs) (item_at c cs e)

-- Fetches of two parts -------------------------------------------------------------------------------------------

fetched_append : (stable : ℕ → Bool) (parts : ℕ) (xs ys : List ℕ) (e : Emitter) → fetched stable parts ys (fetched stable parts xs e) ≡ fetched stable parts (xs ++ ys) e
fetched_append stable parts xs ys e =
    let first = fetch_instrs stable parts xs e.plan in
    let second = fetch_instrs stable parts ys (fetch_plan stable parts xs e.plan) in
    let lines : (e.lines ++ map (line 0) first) ++ map (line 0) second ≡ e.lines ++ map (line 0) (fetch_instrs stable parts (xs ++ ys) e.plan) =
    append_assoc e.lines (map (line 0) first) (map (line 0) second)
    ∙ ap (λ (ls : List Line). e.lines ++ ls) (sym (map_append first second) ∙ ap (map (line 0)) (sym (fetch_instrs_append stable parts xs ys e.plan))) in
    ap₂ (λ (ls : List Line) (plan : Plan). let r : Emitter = record { lines = ls; plan = plan; modes = e.modes } in r) lines (sym (fetch_plan_append stable parts xs ys e.plan))

pub fetched_both : (op : Op) (a b : Term) (parts : ℕ) (old m n : Emitter) → WhereStable old.modes a (λ stable. m ≡ fetched stable parts (occurrences a) old)
    → WhereStable m.modes b (λ stable. n ≡ fetched stable parts (occurrences b) m)
    → WhereStable old.modes (bin op a b) (λ stable. n ≡ fetched stable parts (occurrences a ++ occurrences b) old)
fetched_both op a b parts old m n f g p t is inside =
    let first = f p t is inside.0 in
    let stable = is_stable p t old.modes.held in
    let second = subst (λ ms. WhereStable ms b (λ stable. n ≡ fetched stable parts (occurrences b) m)) (ap (λ (e : Emitter). e.modes) first) g p t is inside.1 in
    second ∙ ap (fetched stable parts (occurrences b)) first ∙ fetched_append stable parts (occurrences a) (occurrences b) old

-- The code of an operator ----------------------------------------------------------------------------------------

pub term_both : (op : Op) (a b : Term) (d r s : ℕ) (old m n z : Emitter) → WhereStable old.modes a (λ stable. m ≡ with_instrs old (term_instrs stable old.plan a d))
    → WhereStable m.modes b (λ stable. n ≡ with_instrs m (term_instrs stable m.plan b (d + 1))) → z ≡ with_lines n (line 0 (Bin op r s) ∷ [])
    → r ≡ part_register old.plan d → s ≡ part_register old.plan (d + 1)
    → WhereStable old.modes (bin op a b) (λ stable. z ≡ with_instrs old (term_instrs stable old.plan (bin op a b) d))
term_both op a b d r s old m n z f g last one two p t is inside =
    let first = f p t is inside.0 in
    let stable = is_stable p t old.modes.held in
    let second = subst (λ ms. WhereStable ms b (λ stable. n ≡ with_instrs m (term_instrs stable m.plan b (d + 1)))) (ap (λ (e : Emitter). e.modes) first) g p t is inside.1 in
    let left = term_instrs stable old.plan a d in
    let right = term_instrs stable old.plan b (suc d) in
    let both : n ≡ with_instrs (with_instrs old left) right =
    second ∙ ap (λ (e : Emitter). with_instrs e (term_instrs stable e.plan b (d + 1))) first
    ∙ ap (λ (k : ℕ). with_instrs (with_instrs old left) (term_instrs stable old.plan b k)) (add-one d) in
    let operator : line 0 (Bin op r s) ≡ line 0 (Bin op (part_register old.plan d) (part_register old.plan (suc d))) =
    ap₂ (λ (x y : ℕ). line 0 (Bin op x y)) one (two ∙ ap (part_register old.plan) (add-one d)) in
    let op_instr = Bin op (part_register old.plan d) (part_register old.plan (suc d)) in
    let lines : ((old.lines ++ map (line 0) left) ++ map (line 0) right) ++ line 0 op_instr ∷ [] ≡ old.lines ++ map (line 0) (left ++ (right ++ op_instr ∷ [])) =
    append_assoc (old.lines ++ map (line 0) left) (map (line 0) right) (line 0 op_instr ∷ []) ∙ append_assoc old.lines (map (line 0) left) (map (line 0) right ++ line 0 op_instr ∷ [])
    ∙ ap (λ (ls : List Line). old.lines ++ ls) (sym (map_append left (right ++ op_instr ∷ []) ∙ ap (λ (ls : List Line). map (line 0) left ++ ls) (map_append right (op_instr ∷ [])))) in
    last ∙ ap₂ (λ (e : Emitter) (l : Line). with_lines e (l ∷ [])) both operator
    ∙ ap (λ (ls : List Line). let e : Emitter = record { lines = ls; plan = old.plan; modes = old.modes } in e) lines

-- The code of an expression --------------------------------------------------------------------------------------

pub expr_code : (e : Term) (from r parts : ℕ) (old begun loaded termed weighed : Emitter) → from ≡ length old.lines → parts ≡ width e
    → WhereStable old.modes e (λ stable. begun ≡ with_instrs (with_room old e) (load_unstable (unstable_of stable e)))
    → WhereStable begun.modes e (λ stable. loaded ≡ fetched stable parts (occurrences e) begun)
    → WhereStable loaded.modes e (λ stable. termed ≡ with_instrs loaded (term_instrs stable loaded.plan e 0))
    → ((before : List Line) (instrs : List Instr) → termed.lines ≡ before ++ map (line 0) instrs → from ≡ length before → weighed ≡ record termed { lines = before ++ weigh instrs })
    → r ≡ part_register weighed.plan 0
    → WhereStable old.modes e (λ stable. (weighed ≡ after_expression stable e old) × (r ≡ expr_register stable old.plan e))
expr_code e from r parts old begun loaded termed weighed at wide begins loads terms weighs value p t is inside =
    let stable = is_stable p t old.modes.held in
    let load = load_unstable (unstable_of stable e) in
    let one : Emitter = with_instrs (with_room old e) load in
    let first : begun ≡ one = begins p t is inside in
    let fetch = fetch_instrs stable (width e) (occurrences e) (expr_room old.plan e) in
    let two : Emitter = fetched stable (width e) (occurrences e) one in
    let second : loaded ≡ two =
    subst (λ ms. WhereStable ms e (λ stable. loaded ≡ fetched stable parts (occurrences e) begun)) (ap (λ (m : Emitter). m.modes) first) loads p t is inside
    ∙ (λ i. fetched stable (wide i) (occurrences e) (first i)) in
    let rest = term_instrs stable (expr_plan stable old.plan e) e 0 in
    let three : Emitter = with_instrs two rest in
    let third : termed ≡ three =
    subst (λ ms. WhereStable ms e (λ stable. termed ≡ with_instrs loaded (term_instrs stable loaded.plan e 0))) (ap (λ (m : Emitter). m.modes) second) terms p t is inside
    ∙ ap (λ (m : Emitter). with_instrs m (term_instrs stable m.plan e 0)) second in
    let lines : ((old.lines ++ map (line 0) load) ++ map (line 0) fetch) ++ map (line 0) rest ≡ old.lines ++ map (line 0) (load ++ (fetch ++ rest)) =
    append_assoc (old.lines ++ map (line 0) load) (map (line 0) fetch) (map (line 0) rest) ∙ append_assoc old.lines (map (line 0) load) (map (line 0) fetch ++ map (line 0) rest)
    ∙ ap (λ (ls : List Line). old.lines ++ ls) (sym (map_append load (fetch ++ rest) ∙ ap (λ (ls : List Line). map (line 0) load ++ ls) (map_append fetch rest))) in
    let whole : weighed ≡ after_expression stable e old =
    weighs old.lines (load ++ (fetch ++ rest)) (ap (λ (m : Emitter). m.lines) third ∙ lines) at
    ∙ ap (λ (m : Emitter). let n : Emitter = record m { lines = old.lines ++ weigh (load ++ (fetch ++ rest)) } in n) third in
    (whole, value ∙ ap (λ (m : Emitter). part_register m.plan 0) whole)
