-- Every line of a code is told once, in order.
use Rattle.std.proofs.Common.{◌≡◌, ℕ, ◌+◌, List, [], ◌∷◌, ◌++◌, length, take, drop, refl, ap, sym, subst, ◌∙◌, append_assoc, append-nil, arith}
use Rattle.std.proofs.lemmas.List.{take-append-drop, length-append}
use Rattle.cov_ast.specs.Syntax.{Stm, branch, loop, note, Block, done, more}
use Rattle.code_lines.specs.CodeShares.{Share, behind_block, behind_own, behind_statement, block_shares, own_count, share, statement_shares}
use Rattle.code_lines.specs.CompiledShares.{AreInRow, lines_of}
use Rattle.code_lines.specs.declared.walk.Role.{Role}
use Rattle.code_lines.specs.declared.walk.Role.TheVariants.{Whole, Guard, Past, Back}
use Rattle.risc_machine.specs.declared.parts.Line.{Line}

-- shares tell these lines but for those left, each at its position from i on
record AreTold (i : ℕ) (qs : List Share) (ls left : List Line) : Type 0 where
  lines : lines_of qs ++ left ≡ ls
  row : AreInRow i qs

lines_append : (xs ys : List Share) → lines_of (xs ++ ys) ≡ lines_of xs ++ lines_of ys
lines_append [] ys = refl
lines_append (q ∷ xs) ys = ap (λ zs. q.lines ++ zs) (lines_append xs ys) ∙ sym (append_assoc q.lines (lines_of xs) (lines_of ys))

row_append : (xs ys : List Share) (i : ℕ) → AreInRow i xs → AreInRow (i + length (lines_of xs)) ys → AreInRow i (xs ++ ys)
row_append [] ys i a b = subst (λ n. AreInRow n ys) (omega arith) b
row_append (q ∷ xs) ys i a b =
    (a.0, row_append xs ys (i + length q.lines) a.1 (subst (λ n. AreInRow n ys) (omega (arith, length-append q.lines (lines_of xs))) b))

-- the position behind lines that are told
behind_told : (qs : List Share) (ls left : List Line) → lines_of qs ++ left ≡ ls → length ls ≡ length (lines_of qs) + length left
behind_told qs ls left e = ap length (sym e) ∙ length-append (lines_of qs) left

-- one share in front of others, and shares in front of others
join : (i total : ℕ) (xs ys : List Share) (ls mid left : List Line) → total ≡ i + length ls → AreTold i xs ls mid
    → ((j : ℕ) → total ≡ j + length mid → AreTold j ys mid left) → AreTold i (xs ++ ys) ls left
join i total xs ys ls mid left is a b =
    let j = i + length (lines_of xs) in
    let next = b j (omega (arith, is, behind_told xs ls mid a.lines)) in
    record {
      lines = ap (λ zs. zs ++ left) (lines_append xs ys) ∙ append_assoc (lines_of xs) (lines_of ys) left ∙ ap (λ zs. lines_of xs ++ zs) next.lines ∙ a.lines;
      row = row_append xs ys i a.row next.row;
    }

one : (role : Role) (at count i total : ℕ) (ls : List Line) → total ≡ i + length ls → AreTold i (share total role at count ls ∷ []) ls (drop count ls)
one role at count i total ls is = record {
  lines = ap (λ zs. zs ++ drop count ls) (append-nil (take count ls)) ∙ take-append-drop count ls;
  row = (omega (arith, is), tt);
}

nothing : (i : ℕ) (ls : List Line) → AreTold i [] ls ls
nothing i ls = record { lines = refl; row = tt }

module _ (total : ℕ) where
  mutual
    statement_told : (s : Stm) (at i : ℕ) (ls : List Line) → total ≡ i + length ls → AreTold i (statement_shares total at s ls) ls (behind_statement s ls)
    statement_told (branch e a b state) at i ls is =
        let inside = behind_own ls in
        let jump = behind_block a inside in
        join i total (share total Guard at (own_count ls) ls ∷ []) _ ls inside _ is (one Guard at (own_count ls) i total ls is)
        (λ j in_j. join j total (block_shares total a inside) _ inside jump _ in_j (block_told a j inside in_j)
        (λ k at_k. join k total (share total Past at 1 jump ∷ []) (block_shares total b (drop 1 jump)) jump (drop 1 jump) _ at_k (one Past at 1 k total jump at_k)
        (λ m at_m. block_told b m (drop 1 jump) at_m)))
    statement_told (loop e inv a) at i ls is =
        let inside = behind_own ls in
        let jump = behind_block a inside in
        join i total (share total Guard at (own_count ls) ls ∷ []) _ ls inside _ is (one Guard at (own_count ls) i total ls is)
        (λ j in_j. join j total (block_shares total a inside) (share total Back at 1 jump ∷ []) inside jump (drop 1 jump) in_j (block_told a j inside in_j)
        (λ k at_k. one Back at 1 k total jump at_k))
    statement_told (note state) at i ls is = nothing i ls
    statement_told _ at i ls is = one Whole at (own_count ls) i total ls is

    block_told : (b : Block) (i : ℕ) (ls : List Line) → total ≡ i + length ls → AreTold i (block_shares total b ls) ls (behind_block b ls)
    block_told done i ls is = nothing i ls
    block_told (more at s proofs b) i ls is =
        join i total (statement_shares total at s ls) (block_shares total b (behind_statement s ls)) ls (behind_statement s ls) _ is (statement_told s at i ls is)
        (λ j at_j. block_told b j (behind_statement s ls) at_j)

-- of a block and all lines of a thread
pub lines_told : (b : Block) (ls : List Line) → lines_of (block_shares (length ls) b ls) ++ behind_block b ls ≡ ls
lines_told b ls = (block_told (length ls) b 0 ls (omega arith)).lines

pub rows_told : (b : Block) (ls : List Line) → AreInRow 0 (block_shares (length ls) b ls)
rows_told b ls = (block_told (length ls) b 0 ls (omega arith)).row
