-- Two runs of the code of a secure program stand at equal positions and agree.
use Rattle.std.proofs.Common.{◌≡◌, ℕ, zero, suc, pred, ◌<◌, List, [], ◌∷◌, ◌++◌, length, get_or, set, map, replicate, Bool, true, false, if◌then◌else◌, not, Option, Some, None, refl, sym, ◌∙◌, ap, ap₂, subst₂, slice_get, is_some, get_or-set_same}
use Rattle.cov_expr.specs.Term.{is_set}
use Rattle.cov_expr.specs.Words.{IsSchedule}
use Rattle.cov_ast.specs.Plain.{Plain}
use Rattle.flow_model.specs.Agreement.{StatesAgree, AreAlike, shape}
use Rattle.flow_model.specs.Composable.{HasCompatibleModes}
use Rattle.flow_model.specs.Source.{Item, run, put, test, emit, Holders, holder, is_held_by, local, Run, run_from, items_of}
use Rattle.compiled_code.proofs.Cores.{Core, core, core_instr, core_line, core_of, core_step, core_from}
use Rattle.compiled_code.proofs.Coupling.{src, Coupled, coupled_step, next_items, follows_step, run_append, run_turns}
use Rattle.compiled_code.proofs.Ends.{word_of, jz_reads}
use Rattle.compiled_code.proofs.Steps.{AreSets, Stands, turned}
use Rattle.risc_machine.specs.Machine.{CodeState, line_of, lines_of, weight_of}
use Rattle.risc_machine.specs.declared.parts.Instr.{Instr}
use Rattle.risc_machine.specs.declared.parts.Instr.TheVariants.{Load, Store, Jump, Jz, Nop, MovC, MovR, Bin, Acquire, Release, Out}
use Rattle.risc_machine.specs.declared.parts.Line.{Line}
use Rattle.risc_machine.specs.declared.parts.Parts.{Parts}

word_of-shape : (is : List Item) → word_of (map shape is) ≡ word_of is
word_of-shape [] = refl
word_of-shape (run at c ∷ is) = refl
word_of-shape (put at x w ∷ is) = refl
word_of-shape (test at w a b ∷ is) = refl
word_of-shape (emit at w ∷ is) = refl

same_words : (is js : List Item) → AreAlike is js → word_of is ≡ word_of js
same_words is js a = sym (word_of-shape is) ∙ ap word_of a ∙ word_of-shape js

one_position : (b : Bool) (c d : Core) → (if b then c else d).position ≡ (if b then c.position else d.position)
one_position true c d = refl
one_position false c d = refl

acquire_position : (t : ℕ) (c : Core) (l : ℕ) → (core_instr t c (Acquire l)).position ≡ (if is_some (holder c.holders l) then c.position else suc c.position)
acquire_position t c l = one_position (is_some (holder c.holders l)) c (core c.memory (set c.holders l (Some t)) c.outputs c.registers (suc c.position))

release_position : (t : ℕ) (c : Core) (l : ℕ) → (core_instr t c (Release l)).position ≡ (if not (is_held_by (holder c.holders l) t) then c.position else suc c.position)
release_position t c l = one_position (not (is_held_by (holder c.holders l) t)) c (core c.memory (set c.holders l None) c.outputs c.registers (suc c.position))

module _ (p : Plain) (t : ℕ) (lines : List Line) (c d : Core) (is js : List Item) (k : Stands p t lines c is) (n : Stands p t lines d js)
    (same : c.position ≡ d.position) (holders : c.holders ≡ d.holders)
    (alike : (w : ℕ) → AreAlike (turned t w (local c.memory c.holders c.outputs is)).items (turned t w (local d.memory d.holders d.outputs js)).items) where
  instr_positions : (w : ℕ) (i : Instr) → slice_get lines c.position ≡ Some (record { weight = w; instr = i }) → slice_get lines d.position ≡ Some (record { weight = w; instr = i })
      → (core_instr t c i).position ≡ (core_instr t d i).position
  instr_positions w (Load r x) e f = ap suc same
  instr_positions w (Store x r) e f = ap suc same
  instr_positions w (Jump i) e f = refl
  instr_positions w (Jz r i) e f =
      let v : get_or c.registers r 0 ≡ get_or d.registers r 0 =
      jz_reads p t lines c is w r i k e
      ∙ same_words (turned t (pred w) (local c.memory c.holders c.outputs is)).items (turned t (pred w) (local d.memory d.holders d.outputs js)).items (alike (pred w))
      ∙ sym (jz_reads p t lines d js w r i n f) in
      ap₂ (λ (v q : ℕ). if is_set v then suc q else i) v same
  instr_positions w Nop e f = ap suc same
  instr_positions w (MovC r x) e f = ap suc same
  instr_positions w (MovR r x) e f = ap suc same
  instr_positions w (Bin o r x) e f = ap suc same
  instr_positions w (Acquire l) e f =
      acquire_position t c l ∙ ap₂ (λ (h : Holders) (q : ℕ). if is_some (holder h l) then q else suc q) holders same ∙ sym (acquire_position t d l)
  instr_positions w (Release l) e f =
      release_position t c l ∙ ap₂ (λ (h : Holders) (q : ℕ). if not (is_held_by (holder h l) t) then q else suc q) holders same ∙ sym (release_position t d l)
  instr_positions w (Out r) e f = ap suc same

  line_positions : (o : Option Line) → slice_get lines c.position ≡ o → slice_get lines d.position ≡ o → (core_line t c o).position ≡ (core_line t d o).position
  line_positions None e f = same
  line_positions (Some l) e f = instr_positions l.weight l.instr e f

all_threads : (n w u : ℕ) (us : List ℕ) → u < n → IsSchedule n us → IsSchedule n (replicate w u ++ us)
all_threads n zero u us h k = k
all_threads n (suc w) u us h k = (h, all_threads n w u us h k)

these_threads : (n w u : ℕ) → u < n → IsSchedule n (replicate w u)
these_threads n zero u h = tt
these_threads n (suc w) u h = (h, these_threads n w u h)

module _ (p : Plain) (sets : (t : ℕ) → AreSets p t) (apart : HasCompatibleModes p) (c : Parts) where
  pub record Twins (s1 s2 : CodeState) (js1 js2 : List (List Item)) : Type 0 where
    pub left : Coupled p sets apart c s1 js1
    pub right : Coupled p sets apart c s2 js2
    pub positions : s1.positions ≡ s2.positions
    pub future : (us : List ℕ) → IsSchedule (length p.threads) us → StatesAgree p (run_from (src s1 js1) us) (run_from (src s2 js2) us)

  -- the items after some turns of u
  items_after : (s : CodeState) (js : List (List Item)) (q : Coupled p sets apart c s js) (u : ℕ) → u < length p.threads → (w : ℕ)
      → items_of (run_from (src s js) (replicate w u)) u ≡ (turned u w (local s.memory s.holders s.outputs (get_or js u []))).items
  items_after s js q u u_in w =
      ap (λ (r : Run). items_of r u) (run_turns w u s.memory s.holders s.outputs js (rw q.items u_in))
      ∙ get_or-set_same js u (turned u w (local s.memory s.holders s.outputs (get_or js u []))).items [] (rw q.items u_in)

  twins_step : (s1 s2 : CodeState) (js1 js2 : List (List Item)) (u : ℕ) (u_in : u < length p.threads) (k : Twins s1 s2 js1 js2)
      → Twins (core_step c s1 u) (core_step c s2 u) (next_items p sets apart c s1 js1 u u_in k.left) (next_items p sets apart c s2 js2 u u_in k.right)
  twins_step s1 s2 js1 js2 u u_in k = record {
    left = coupled_step p sets apart c s1 js1 u u_in k.left;
    right = coupled_step p sets apart c s2 js2 u u_in k.right;
    positions = ap₂ (λ (ps : List ℕ) (q : ℕ). set ps u q) k.positions (moved ∙ ap (λ o. (core_line u (core_of s2 u) o).position) same_line);
    future = λ us h.
        subst₂ (λ r q. StatesAgree p r q) (there s1 js1 k.left us) (ap (λ o. run_from (src s2 js2) (replicate (weight_of o) u ++ us)) same_line ∙ there s2 js2 k.right us)
        (k.future (replicate (weight_of (line_of c s1 u)) u ++ us) (all_threads (length p.threads) (weight_of (line_of c s1 u)) u us u_in h));
  }
    where
      same_line : line_of c s1 u ≡ line_of c s2 u
      same_line = ap (λ (ps : List ℕ). slice_get (lines_of c u) (get_or ps u 0)) k.positions

      alike : (w : ℕ) → AreAlike (turned u w (local s1.memory s1.holders s1.outputs (get_or js1 u []))).items (turned u w (local s2.memory s2.holders s2.outputs (get_or js2 u []))).items
      alike w =
          subst₂ AreAlike (items_after s1 js1 k.left u u_in w) (items_after s2 js2 k.right u u_in w)
          ((k.future (replicate w u) (these_threads (length p.threads) w u u_in)).threads u)

      moved : (core_line u (core_of s1 u) (line_of c s1 u)).position ≡ (core_line u (core_of s2 u) (line_of c s1 u)).position
      moved =
          line_positions p u (lines_of c u) (core_of s1 u) (core_of s2 u) (get_or js1 u []) (get_or js2 u []) (k.left.stands u u_in) (k.right.stands u u_in)
          (ap (λ (ps : List ℕ). get_or ps u 0) k.positions) (k.future [] tt).memories.holders alike (line_of c s1 u) refl (sym same_line)

      there : (s : CodeState) (js : List (List Item)) (q : Coupled p sets apart c s js) (us : List ℕ)
          → run_from (src s js) (replicate (weight_of (line_of c s u)) u ++ us) ≡ run_from (src (core_step c s u) (next_items p sets apart c s js u u_in q)) us
      there s js q us =
          run_append p sets apart c (src s js) (replicate (weight_of (line_of c s u)) u) us ∙ ap (λ r. run_from r us) (follows_step p sets apart c s js u u_in q)

  pub record TwinsAt (s1 s2 : CodeState) : Type 0 where
    pub js1 : List (List Item)
    pub js2 : List (List Item)
    pub twins : Twins s1 s2 js1 js2

  pub twins_run : (us : List ℕ) (s1 s2 : CodeState) (js1 js2 : List (List Item)) → IsSchedule (length p.threads) us → Twins s1 s2 js1 js2
      → TwinsAt (core_from c s1 us) (core_from c s2 us)
  twins_run [] s1 s2 js1 js2 h k = record { js1 = js1; js2 = js2; twins = k }
  twins_run (u ∷ us) s1 s2 js1 js2 h k =
      twins_run us (core_step c s1 u) (core_step c s2 u) (next_items p sets apart c s1 js1 u h.0 k.left) (next_items p sets apart c s2 js2 u h.0 k.right) h.1
      (twins_step s1 s2 js1 js2 u h.0 k)
