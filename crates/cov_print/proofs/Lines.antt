-- The lines of the canonical spelling have the canonical tokens.
use Rattle.std.proofs.Common.{◌≡◌, ℕ, ◌==◌, List, [], ◌∷◌, ◌++◌, Bool, true, false, if◌then◌else◌, Option, Some, None, codes, flat_map, refl, sym, ap, ◌∙◌, lit<, append_assoc}
use Rattle.std.proofs.lemmas.Fmt.{decimal_digit}
use Rattle.cov_expr.specs.Term.{Term}
use Rattle.cov_expr.specs.declared.kind.Kind.TheVariants as k
use Rattle.cov_expr.specs.Spellings.{spellings}
use Rattle.cov_expr.specs.Spellings as spelled
use Rattle.cov_ast.specs.Syntax as s
use Rattle.cov_print.specs.Spelling as spec
use Rattle.cov_print.proofs.Written as w
use Rattle.cov_print.proofs.Written.{Word, plain}
use Rattle.cov_print.proofs.Readings as r
use Rattle.cov_print.proofs.Readings.{known, Reads}
use Rattle.cov_print.proofs.Leaves.{AreNames, word_, lead_, number_, name_}
use Rattle.cov_print.proofs.Texts.{Ready, Writes, moved, after, whole_, by_, state_, of_3, of_4, of_5, listed_}

-- Blanks in front of a line.
pub record IsMargin (all : List (List ℕ)) (margin : List ℕ) : Type 0 where
  pub read : {more : List ℕ} {vs : List Word} → Reads all more vs → Reads all (margin ++ more) vs

of_7 : {A : Type 0} (a b c d e f g m : List A) → (a ++ b ++ c ++ d ++ e ++ f ++ g) ++ m ≡ a ++ (b ++ (c ++ (d ++ (e ++ (f ++ (g ++ m))))))
of_7 a b c d e f g m = simp append_assoc

of_10 : {A : Type 0} (a b c d e f g h i j m : List A) → (a ++ b ++ c ++ d ++ e ++ f ++ g ++ h ++ i ++ j) ++ m ≡ a ++ (b ++ (c ++ (d ++ (e ++ (f ++ (g ++ (h ++ (i ++ (j ++ m)))))))))
of_10 a b c d e f g h i j m = simp append_assoc

pub of_parts : {A : Type 0} (a b c d e m : List A) → (a ++ (b ++ (c ++ (d ++ e)))) ++ m ≡ a ++ (b ++ (c ++ (d ++ (e ++ m))))
of_parts a b c d e m = simp append_assoc

pub of_branch : {A : Type 0} (o c l : A) (e a b j p m : List A) → (e ++ ((o ∷ (a ++ c ∷ [])) ++ (l ∷ ((o ∷ (b ++ c ∷ [])) ++ (j ++ p))))) ++ m ≡ e ++ (o ∷ (a ++ (c ∷ (l ∷ (o ∷ (b ++ (c ∷ (j ++ (p ++ m)))))))))
of_branch o c l e a b j p m = simp append_assoc

pub of_loop : {A : Type 0} (o c : A) (e i b p m : List A) → (e ++ (i ++ ((o ∷ (b ++ c ∷ [])) ++ p))) ++ m ≡ e ++ (i ++ (o ∷ (b ++ (c ∷ (p ++ m)))))
of_loop o c e i b p m = simp append_assoc

pub of_lists : {A : Type 0} (a b c d m : List A) → ((a ++ (b ++ c)) ++ d) ++ m ≡ a ++ (b ++ (c ++ (d ++ m)))
of_lists a b c d m = simp append_assoc

pub of_thread : {A : Type 0} (o c : A) (a g b m : List A) → (a ++ (g ++ (o ∷ (b ++ c ∷ [])))) ++ m ≡ (a ++ g) ++ (o ∷ (b ++ (c ∷ m)))
of_thread o c a g b m = simp append_assoc

module _ (all : List (List ℕ)) (valid : AreNames all) where
  no_margin : IsMargin all []
  no_margin = record { read = λ {more} {vs} h. h }

  deeper_margin : (margin : List ℕ) → IsMargin all margin → IsMargin all (spec.deeper margin)
  deeper_margin margin m = record { read = λ {more} {vs} h. moved (append_assoc margin (codes "  ") more) refl (m.read (r.blank (r.blank h))) }

  as_ : (q : Option Term) {more : List ℕ} {vs : List Word} → Ready all more vs → Ready all (spec.maybe all (codes " as ") q ++ more) (w.maybe (known all) k.As q ++ vs)
  unfolding spelled.kind_of spellings
  as_ None h = h
  as_ (Some e) h = after (r.blank (lead_ refl (r.blank (whole_ all valid e h)))) refl

  pub inv_ : (q : Option Term) {more : List ℕ} {vs : List Word} → Ready all more vs → Ready all (spec.maybe all (codes " inv ") q ++ more) (w.maybe (known all) k.Inv q ++ vs)
  unfolding spelled.kind_of spellings
  inv_ None h = h
  inv_ (Some e) h = after (r.blank (lead_ refl (r.blank (whole_ all valid e h)))) refl

  retypes_ : (rs : List (ℕ × Term)) {more : List ℕ} {vs : List Word} → Ready all more vs → Ready all (flat_map (spec.retype all) rs ++ more) (flat_map (w.retype (known all)) rs ++ vs)
  unfolding spelled.kind_of spellings
  retypes_ [] h = h
  retypes_ (x ∷ xs) {more} {vs} h =
      after
      (moved (ap (λ l. codes " retype " ++ l) (of_4 (spec.name all x.0) (codes " as ") (spec.whole all x.1) (flat_map (spec.retype all) xs) more))
      (ap (λ l. plain k.Retype ∷ w.name x.0 ∷ plain k.As ∷ l) (append_assoc (w.whole (known all) x.1) (flat_map (w.retype (known all)) xs) vs))
      (r.blank (lead_ refl (r.blank (name_ all valid x.0 (r.blank (lead_ refl (r.blank (whole_ all valid x.1 (retypes_ xs h))))) refl))))) refl

  join_ : (preds : List Term) (ts : List (ℕ × Term)) {more : List ℕ} {vs : List Word} → Ready all more vs → Ready all (spec.stated_of all (codes " join ") preds ts ++ more) (w.stated_of (known all) k.Join preds ts ++ vs)
  unfolding spec.stated_of spelled.kind_of spellings
  join_ [] [] h = h
  join_ (p ∷ ps) ts h = after (r.blank (lead_ refl (r.blank (state_ all valid (p ∷ ps) ts h.is)))) refl
  join_ [] (t ∷ ts) h = after (r.blank (lead_ refl (r.blank (state_ all valid [] (t ∷ ts) h.is)))) refl

  loop_inv_ : (preds : List Term) (ts : List (ℕ × Term)) {more : List ℕ} {vs : List Word} → Ready all more vs → Ready all (spec.stated_of all (codes " inv ") preds ts ++ more) (w.stated_of (known all) k.Inv preds ts ++ vs)
  unfolding spec.stated_of spelled.kind_of spellings
  loop_inv_ [] [] h = h
  loop_inv_ (p ∷ ps) ts h = after (r.blank (lead_ refl (r.blank (state_ all valid (p ∷ ps) ts h.is)))) refl
  loop_inv_ [] (t ∷ ts) h = after (r.blank (lead_ refl (r.blank (state_ all valid [] (t ∷ ts) h.is)))) refl

  mutual
    unfolding spelled.kind_of spellings

    stm_ : (x : s.Stm) (ps : List s.Proof) (margin : List ℕ) → IsMargin all margin → {more : List ℕ} {vs : List Word} → Ready all more vs → Reads all (spec.stm all margin x ps ++ more) (w.stm (known all) x ps ++ vs)
    stm_ s.skip ps margin m h = lead_ refl (r.semicolon_ h.is)
    stm_ (s.assign x e q rs) ps margin m {more} {vs} h =
        moved (of_7 (spec.name all x) (codes " := ") (spec.whole all e) (spec.maybe all (codes " as ") q) (flat_map (spec.retype all) rs) (spec.by all ps) (codes ";") more)
        (ap (λ l. w.name x ∷ plain k.Assign ∷ l) (of_parts (w.whole (known all) e) (w.maybe (known all) k.As q) (flat_map (w.retype (known all)) rs) (w.by (known all) ps) (plain k.Semicolon ∷ []) vs))
        (name_ all valid x (r.blank (r.assign_ (r.blank (whole_ all valid e (as_ q (retypes_ rs (by_ all valid ps (after (r.semicolon_ h.is) refl)))))))) refl)
    stm_ (s.branch e a b j) ps margin m {more} {vs} h =
        let p = by_ all valid ps h in
        let q = join_ j.preds j.types p in
        let d = deeper_margin margin m in
        moved
        (ap (λ t. codes "if " ++ t) (of_10 (spec.whole all e) (codes " {\n") (spec.block all (spec.deeper margin) a) margin (codes "} else {\n") (spec.block all (spec.deeper margin) b) margin (codes "}") (spec.stated all (codes " join ") j) (spec.by all ps) more))
        (ap (λ t. plain k.If ∷ t) (of_branch (plain k.OpenBrace) (plain k.CloseBrace) (plain k.Else) (w.whole (known all) e) (w.block (known all) a) (w.block (known all) b) (w.stated (known all) k.Join j) (w.by (known all) ps) vs))
        (lead_ refl (r.blank (whole_ all valid e (after (r.blank (r.open_brace_ (r.line (block_ a (spec.deeper margin) d
        (m.read (r.close_brace_ (r.blank (lead_ refl (r.blank (r.open_brace_ (r.line (block_ b (spec.deeper margin) d (m.read (r.close_brace_ q.is)))))))))))))) refl))))
    stm_ (s.loop e j b) ps margin m {more} {vs} h =
        let p = by_ all valid ps h in
        let d = deeper_margin margin m in
        moved
        (ap (λ t. codes "while " ++ t) (of_7 (spec.whole all e) (spec.stated all (codes " inv ") j) (codes " {\n") (spec.block all (spec.deeper margin) b) margin (codes "}") (spec.by all ps) more))
        (ap (λ t. plain k.While ∷ t) (of_loop (plain k.OpenBrace) (plain k.CloseBrace) (w.whole (known all) e) (w.stated (known all) k.Inv j) (w.block (known all) b) (w.by (known all) ps) vs))
        (lead_ refl (r.blank (whole_ all valid e (loop_inv_ j.preds j.types (after (r.blank (r.open_brace_ (r.line (block_ b (spec.deeper margin) d (m.read (r.close_brace_ p.is)))))) refl)))))
    stm_ (s.note j) ps margin m {more} {vs} h =
        let p = by_ all valid ps (after (r.semicolon_ h.is) refl) in
        moved (ap (λ t. codes "note " ++ t) (of_3 (spec.state all j) (spec.by all ps) (codes ";") more)) (ap (λ t. plain k.Note ∷ t) (of_3 (w.state (known all) j) (w.by (known all) ps) (plain k.Semicolon ∷ []) vs))
        (lead_ refl (r.blank (state_ all valid j.preds j.types p.is)))
    stm_ (s.output e) ps margin m {more} {vs} h =
        let p = by_ all valid ps (after (r.semicolon_ h.is) refl) in
        moved (ap (λ t. codes "output " ++ t) (of_3 (spec.whole all e) (spec.by all ps) (codes ";") more)) (ap (λ t. plain k.Output ∷ t) (of_3 (w.whole (known all) e) (w.by (known all) ps) (plain k.Semicolon ∷ []) vs))
        (lead_ refl (r.blank (whole_ all valid e p)))
    stm_ _ ps margin m h =
        let q = r.semicolon_ h.is in
        let p = by_ all valid ps (after q refl) in
        simp append_assoc (lead_ refl (r.blank (name_ all valid _ (search (q, p.is)) (search p.stop))))

    block_ : (b : s.Block) (margin : List ℕ) → IsMargin all margin → {more : List ℕ} {vs : List Word} → Reads all more vs → Reads all (spec.block all margin b ++ more) (w.block (known all) b ++ vs)
    block_ s.done margin m h = h
    block_ (s.more at x ps rest) margin m {more} {vs} h =
        moved (of_4 margin (spec.stm all margin x ps) (codes "\n") (spec.block all margin rest) more) (append_assoc (w.stm (known all) x ps) (w.block (known all) rest) vs)
        (m.read (stm_ x ps margin m (after (r.line (block_ rest margin m h)) refl)))

  -- Declarations -----------------------------------------------------------------------------------------------

  version_by : (b : Bool) {more : List ℕ} {vs : List Word} → Reads all more vs
      → Reads all (spec.given b (codes "version 2;\n") ++ more) ((if b then plain k.Version ∷ w.number 2 ∷ plain k.Semicolon ∷ [] else []) ++ vs)
  unfolding spelled.kind_of spellings
  version_by false h = h
  version_by true {more} {vs} h =
      moved (ap (λ d. codes "version " ++ (d ++ (codes ";\n" ++ more))) (sym (decimal_digit 2 (lit< tt)))) refl
      (lead_ refl (r.blank (number_ 2 (r.semicolon_ (r.line h)) refl)))

  pub version_ : (v : ℕ) {more : List ℕ} {vs : List Word} → Reads all more vs → Reads all (spec.version_line v ++ more) (w.version v ++ vs)
  version_ v h = version_by (v == 2) h

  name_each : Writes all (spec.name all) (λ x. w.name x ∷ [])
  name_each = record { each = λ x {more} {vs} h. name_ all valid x h.is h.stop }

  class_ : (c : s.Class) {more : List ℕ} {vs : List Word} → Ready all more vs → Reads all (spec.class all c ++ more) (w.class (known all) c ++ vs)
  unfolding spelled.kind_of spellings
  class_ s.low h = word_ (codes "low") refl h.is h.stop
  class_ s.high h = word_ (codes "high") refl h.is h.stop
  class_ (s.when e) h = lead_ refl (r.blank (lead_ refl (r.blank (whole_ all valid e h))))

  -- The declared name is the name of its number.
  pub var_ : (x : ℕ) (c : s.Class) (v : s.Var) → v.name ≡ spec.name all x → v.class ≡ c → {more : List ℕ} {vs : List Word} → Reads all more vs → Reads all (spec.var_line all v ++ more) (w.var_decl (known all) x c ++ vs)
  unfolding spelled.kind_of spellings
  var_ x c v e g {more} {vs} h =
      moved (ap (λ n. codes "var " ++ ((n ++ codes ": " ++ spec.class all v.class ++ codes ";\n") ++ more)) e ∙ ap (λ d. codes "var " ++ ((spec.name all x ++ codes ": " ++ spec.class all d ++ codes ";\n") ++ more)) g
      ∙ ap (λ l. codes "var " ++ l) (of_4 (spec.name all x) (codes ": ") (spec.class all c) (codes ";\n") more))
      (ap (λ l. plain k.Var ∷ w.name x ∷ plain k.Colon ∷ l) (append_assoc (w.class (known all) c) (plain k.Semicolon ∷ []) vs))
      (lead_ refl (r.blank (name_ all valid x (r.colon_ (r.blank (class_ c (after (r.semicolon_ (r.line h)) refl)))) refl)))

  nowrite_ : (xs : List ℕ) {more : List ℕ} {vs : List Word} → Ready all more vs → Ready all (spec.named all (codes " nowrite ") xs ++ more) (w.behind k.Nowrite xs ++ vs)
  unfolding spelled.kind_of spellings
  nowrite_ [] h = h
  nowrite_ (x ∷ xs) h = after (r.blank (lead_ refl (r.blank (listed_ all valid name_each (x ∷ xs) h)))) refl

  hide_ : (xs : List ℕ) {more : List ℕ} {vs : List Word} → Ready all more vs → Ready all (spec.named all (codes " hide ") xs ++ more) (w.behind k.Hide xs ++ vs)
  unfolding spelled.kind_of spellings
  hide_ [] h = h
  hide_ (x ∷ xs) h = after (r.blank (lead_ refl (r.blank (listed_ all valid name_each (x ∷ xs) h)))) refl

  pub lock_ : (x : ℕ) (l : s.Lock) → l.name ≡ spec.name all x → {more : List ℕ} {vs : List Word} → Reads all more vs → Reads all (spec.lock_line all l ++ more) (w.lock_decl (known all) x l.nowrite l.hide l.inv ++ vs)
  unfolding spelled.kind_of spellings
  lock_ x l e {more} {vs} h =
      let i = inv_ l.inv (after (r.semicolon_ (r.line h)) refl) in
      let n = nowrite_ l.nowrite (hide_ l.hide i) in
      moved (ap (λ t. codes "lock " ++ ((t ++ spec.named all (codes " nowrite ") l.nowrite ++ spec.named all (codes " hide ") l.hide ++ spec.maybe all (codes " inv ") l.inv ++ codes ";\n") ++ more)) e
      ∙ ap (λ t. codes "lock " ++ t) (of_5 (spec.name all x) (spec.named all (codes " nowrite ") l.nowrite) (spec.named all (codes " hide ") l.hide) (spec.maybe all (codes " inv ") l.inv) (codes ";\n") more))
      (ap (λ t. plain k.Lock ∷ w.name x ∷ t) (of_lists (w.behind k.Nowrite l.nowrite) (w.behind k.Hide l.hide) (w.maybe (known all) k.Inv l.inv) (plain k.Semicolon ∷ []) vs))
      (lead_ refl (r.blank (name_ all valid x n.is n.stop)))

  assume_nowrite_ : (xs : List ℕ) {more : List ℕ} {vs : List Word} → Ready all more vs → Ready all (spec.named all (codes " assume nowrite ") xs ++ more) (w.mode k.Assume k.Nowrite xs ++ vs)
  unfolding spelled.kind_of spellings
  assume_nowrite_ [] h = h
  assume_nowrite_ (x ∷ xs) h =
      after (r.blank (lead_ refl (r.blank (lead_ refl (r.blank (listed_ all valid name_each (x ∷ xs) h)))))) refl

  assume_hide_ : (xs : List ℕ) {more : List ℕ} {vs : List Word} → Ready all more vs → Ready all (spec.named all (codes " assume hide ") xs ++ more) (w.mode k.Assume k.Hide xs ++ vs)
  unfolding spelled.kind_of spellings
  assume_hide_ [] h = h
  assume_hide_ (x ∷ xs) h =
      after (r.blank (lead_ refl (r.blank (lead_ refl (r.blank (listed_ all valid name_each (x ∷ xs) h)))))) refl

  guarantee_nowrite_ : (xs : List ℕ) {more : List ℕ} {vs : List Word} → Ready all more vs → Ready all (spec.named all (codes " guarantee nowrite ") xs ++ more) (w.mode k.Guarantee k.Nowrite xs ++ vs)
  unfolding spelled.kind_of spellings
  guarantee_nowrite_ [] h = h
  guarantee_nowrite_ (x ∷ xs) h =
      after (r.blank (lead_ refl (r.blank (lead_ refl (r.blank (listed_ all valid name_each (x ∷ xs) h)))))) refl

  guarantee_hide_ : (xs : List ℕ) {more : List ℕ} {vs : List Word} → Ready all more vs → Ready all (spec.named all (codes " guarantee hide ") xs ++ more) (w.mode k.Guarantee k.Hide xs ++ vs)
  unfolding spelled.kind_of spellings
  guarantee_hide_ [] h = h
  guarantee_hide_ (x ∷ xs) h =
      after (r.blank (lead_ refl (r.blank (lead_ refl (r.blank (listed_ all valid name_each (x ∷ xs) h)))))) refl

  modes_ : (m : s.Modes) {more : List ℕ} {vs : List Word} → Ready all more vs
      → Ready all (spec.modes all m ++ more) ((w.modes k.Assume m.assume_nowrite m.assume_hide ++ w.modes k.Guarantee m.guarantee_nowrite m.guarantee_hide) ++ vs)
  modes_ m h = simp append_assoc (assume_nowrite_ m.assume_nowrite (assume_hide_ m.assume_hide (guarantee_nowrite_ m.guarantee_nowrite (guarantee_hide_ m.guarantee_hide h))))

  pub thread_ : (x : ℕ) (t : s.Thread) → t.name ≡ spec.name all x → {more : List ℕ} {vs : List Word} → Reads all more vs → Reads all (spec.thread_lines all t ++ more) (w.thread_decl (known all) x t.modes t.body ++ vs)
  unfolding spelled.kind_of spellings
  thread_ x t e {more} {vs} h =
      let b = r.open_brace_ (r.line (block_ t.body (spec.deeper []) (deeper_margin [] no_margin) (r.close_brace_ (r.line h)))) in
      let m = modes_ t.modes (after (r.blank b) refl) in
      moved (ap (λ n. codes "thread " ++ ((n ++ spec.modes all t.modes ++ codes " {\n" ++ spec.block all (spec.deeper []) t.body ++ codes "}\n") ++ more)) e
      ∙ ap (λ l. codes "thread " ++ l) (of_5 (spec.name all x) (spec.modes all t.modes) (codes " {\n") (spec.block all (spec.deeper []) t.body) (codes "}\n") more))
      (ap (λ l. plain k.Thread ∷ w.name x ∷ l)
      (of_thread (plain k.OpenBrace) (plain k.CloseBrace) (w.modes k.Assume t.modes.assume_nowrite t.modes.assume_hide) (w.modes k.Guarantee t.modes.guarantee_nowrite t.modes.guarantee_hide) (w.block (known all) t.body) vs))
      (lead_ refl (r.blank (name_ all valid x m.is m.stop)))
