-- Threads of one body that stand alike by their first statements are alike in all that remains.
use Rattle.std.proofs.Common.{◌≡◌, inl, inr, ℕ, ◌==◌, List, [], ◌∷◌, map, refl, ap, sym, ◌∙◌, true, Option, Some, None, eq-eqb, eqb-true}
use Rattle.std.proofs.lemmas.Bool.{and_parts, and_from}
use Rattle.cov_ast.specs.Plain as p
use Rattle.cov_ast.specs.Syntax.{Stm, Block, done, more}
use Rattle.cov_ast.specs.Syntax as s
use Rattle.cov_ast.specs.WellFormed.{are_distinct, places}
use Rattle.flow_model.specs.Agreement.{shape, AreAlike}
use Rattle.flow_model.specs.Source.{Item, run, put, test, emit, first_place}
use Rattle.source_machine.specs.Inside.Firsts.{first_stm, same_word, alike_words, stand_alike}
use Rattle.source_machine.specs.Frames.{items, with_word}
use Rattle.source_machine.specs.Inside.Entries.{IsReady, AreFrames}
use Rattle.source_machine.specs.Inside.Standing.{Stands}
use Rattle.source_machine.proofs.PlaceLaws.{same_part}

pub with_nothing : (w : Option ℕ) → with_word w [] ≡ []
with_nothing None = refl
with_nothing (Some w) = refl

first_shape : (is : List Item) → first_place (map shape is) ≡ first_place is
first_shape [] = refl
first_shape (run at c ∷ is) = refl
first_shape (put at x w ∷ is) = refl
first_shape (test at w a b ∷ is) = refl
first_shape (emit at w ∷ is) = refl

module _ (at : ℕ) (proofs : List s.Proof) (b : Block) (bs : List Block) where
  abbrev left : Stm → List Item
  left c = items (more at c proofs b ∷ bs)

  first_left : (c : Stm) → IsReady (more at c proofs b) → first_place (left c) ≡ Some at
  first_left (s.note j) r = absurd r
  first_left _ r = refl

  pub first_with_word : (w : Option ℕ) (c : Stm) → IsReady (more at c proofs b) → first_place (with_word w (left c)) ≡ Some at
  first_with_word None c r = first_left c r
  first_with_word (Some w) (s.note j) r = absurd r
  first_with_word (Some w) _ r = refl

  same_word_is : (w v : Option ℕ) → same_word w v ≡ true → w ≡ v
  same_word_is None None h = refl
  same_word_is None (Some v) h = absurd cc
  same_word_is (Some w) None h = absurd cc
  same_word_is (Some w) (Some v) h = ap Some (eqb-true w v h)

  words_sound : (c : Stm) (w v : Option ℕ) → IsReady (more at c proofs b) → alike_words c w v ≡ true → AreAlike (with_word w (left c)) (with_word v (left c))
  words_sound (s.assign x e q retypes) None None r h = refl
  words_sound (s.assign x e q retypes) None (Some v) r h = absurd cc
  words_sound (s.assign x e q retypes) (Some w) None r h = absurd cc
  words_sound (s.assign x e q retypes) (Some w) (Some v) r h = refl
  words_sound (s.output e) None None r h = refl
  words_sound (s.output e) None (Some v) r h = absurd cc
  words_sound (s.output e) (Some w) None r h = absurd cc
  words_sound (s.output e) (Some w) (Some v) r h = refl
  words_sound (s.branch e x y join) w v r h = ap (λ u. map shape (with_word u (left (s.branch e x y join)))) (same_word_is w v h)
  words_sound (s.loop e inv x) w v r h = ap (λ u. map shape (with_word u (left (s.loop e inv x)))) (same_word_is w v h)
  words_sound (s.note j) w v r h = absurd r
  words_sound _ None None r h = refl
  words_sound _ None (Some v) r h = refl
  words_sound _ (Some w) None r h = refl
  words_sound _ (Some w) (Some v) r h = refl

  same_words : {at1 at2 w v : ℕ} {a1 b1 a2 b2 : p.Cmds} {is js : List Item} → test at1 w a1 b1 ∷ is ≡ test at2 v a2 b2 ∷ js → w ≡ v
  same_words e = cc

  words_complete : (c : Stm) (w v : Option ℕ) → AreAlike (with_word w (left c)) (with_word v (left c)) → alike_words c w v ≡ true
  words_complete (s.assign x e q retypes) None None h = refl
  words_complete (s.assign x e q retypes) None (Some v) h = absurd cc
  words_complete (s.assign x e q retypes) (Some w) None h = absurd cc
  words_complete (s.assign x e q retypes) (Some w) (Some v) h = refl
  words_complete (s.output e) None None h = refl
  words_complete (s.output e) None (Some v) h = absurd cc
  words_complete (s.output e) (Some w) None h = absurd cc
  words_complete (s.output e) (Some w) (Some v) h = refl
  words_complete (s.branch e x y join) None None h = refl
  words_complete (s.branch e x y join) None (Some v) h = absurd cc
  words_complete (s.branch e x y join) (Some w) None h = absurd cc
  words_complete (s.branch e x y join) (Some w) (Some v) h = eq-eqb w v (same_words h)
  words_complete (s.loop e inv x) None None h = refl
  words_complete (s.loop e inv x) None (Some v) h = absurd cc
  words_complete (s.loop e inv x) (Some w) None h = absurd cc
  words_complete (s.loop e inv x) (Some w) (Some v) h = eq-eqb w v (same_words h)
  words_complete _ w v h = refl

module _ (body : Block) (differ : are_distinct (◌==◌) (places body) ≡ true) where
  same_left : (is js : List Item) (at : ℕ) → first_place is ≡ Some at → first_place js ≡ Some at → Stands body is → Stands body js → is ≡ js
  same_left is js at i j (inl h) (inl k) = same_part body [] is js differ h k (i ∙ sym j)
  same_left is js at i j (inl h) (inr e) = let x : None ≡ Some at = sym (ap first_place e) ∙ j in absurd cc
  same_left is js at i j (inr e) k = let x : None ≡ Some at = sym (ap first_place e) ∙ i in absurd cc

module _ (body : Block) (differ : are_distinct (◌==◌) (places body) ≡ true) (vars locks room vars2 locks2 room2 : ℕ) where
  pub alike_sound : (bs cs : List Block) (w v : Option ℕ) → AreFrames vars locks room bs → AreFrames vars2 locks2 room2 cs → Stands body (items bs) → Stands body (items cs)
      → stand_alike (first_stm bs) w (first_stm cs) v ≡ true → AreAlike (with_word w (items bs)) (with_word v (items cs))
  alike_sound [] [] w v f g i j h = ap (map shape) (with_nothing w ∙ sym (with_nothing v))
  alike_sound [] (done ∷ cs) w v f g i j h = absurd g.1
  alike_sound [] (more a c proofs b ∷ cs) w v f g i j h = absurd cc
  alike_sound (done ∷ bs) cs w v f g i j h = absurd f.1
  alike_sound (more a c proofs b ∷ bs) [] w v f g i j h = absurd cc
  alike_sound (more a c proofs b ∷ bs) (done ∷ cs) w v f g i j h = absurd g.1
  alike_sound (more a c proofs b ∷ bs) (more a2 c2 proofs2 b2 ∷ cs) w v f g i j h =
      let both = and_parts (a == a2) (alike_words c w v) h in
      let same = same_left body differ (items (more a c proofs b ∷ bs)) (items (more a2 c2 proofs2 b2 ∷ cs)) a
      (first_left a proofs b bs c f.1) (first_left a2 proofs2 b2 cs c2 g.1 ∙ ap Some (sym (eqb-true a a2 both.0))) i j in
      words_sound a proofs b bs c w v f.1 both.1 ∙ ap (λ is. map shape (with_word v is)) same

  pub alike_complete : (bs cs : List Block) (w v : Option ℕ) → AreFrames vars locks room bs → AreFrames vars2 locks2 room2 cs → Stands body (items bs) → Stands body (items cs)
      → AreAlike (with_word w (items bs)) (with_word v (items cs)) → stand_alike (first_stm bs) w (first_stm cs) v ≡ true
  alike_complete [] [] w v f g i j h = refl
  alike_complete [] (done ∷ cs) w v f g i j h = absurd g.1
  alike_complete [] (more a c proofs b ∷ cs) w v f g i j h =
      let x : None ≡ Some a = sym (ap first_place (with_nothing w)) ∙ sym (first_shape (with_word w [])) ∙ ap first_place h
      ∙ first_shape (with_word v (items (more a c proofs b ∷ cs))) ∙ first_with_word a proofs b cs v c g.1 in absurd cc
  alike_complete (done ∷ bs) cs w v f g i j h = absurd f.1
  alike_complete (more a c proofs b ∷ bs) [] w v f g i j h =
      let x : None ≡ Some a = sym (ap first_place (with_nothing v)) ∙ sym (first_shape (with_word v [])) ∙ ap first_place (sym h)
      ∙ first_shape (with_word w (items (more a c proofs b ∷ bs))) ∙ first_with_word a proofs b bs w c f.1 in absurd cc
  alike_complete (more a c proofs b ∷ bs) (done ∷ cs) w v f g i j h = absurd g.1
  alike_complete (more a c proofs b ∷ bs) (more a2 c2 proofs2 b2 ∷ cs) w v f g i j h =
      let x : Some a ≡ Some a2 = sym (first_with_word a proofs b bs w c f.1) ∙ sym (first_shape (with_word w (items (more a c proofs b ∷ bs)))) ∙ ap first_place h
      ∙ first_shape (with_word v (items (more a2 c2 proofs2 b2 ∷ cs))) ∙ first_with_word a2 proofs2 b2 cs v c2 g.1 in
      let at : a ≡ a2 = cc in
      let same = same_left body differ (items (more a c proofs b ∷ bs)) (items (more a2 c2 proofs2 b2 ∷ cs)) a
      (first_left a proofs b bs c f.1) (first_left a2 proofs2 b2 cs c2 g.1 ∙ ap Some (sym at)) i j in
      and_from (a == a2) (alike_words c w v) (eq-eqb a a2 at) (words_complete a proofs b bs c w v (h ∙ ap (λ is. map shape (with_word v is)) (sym same)))
