-- The program of a number of rounds, as a text.
--
-- A writer and a reader share a buffer `b` and its mode `m` under a lock. In each round the writer puts the secret `k` into the buffer and
-- sets the mode, by which the buffer is no longer low; then it clears the buffer and takes the mode back. The reader copies the buffer
-- into `x`, which is its own, where the mode says that it is low, and shows that word in `o`.
use Rattle.std.specs.Prelude.{ℕ, List, ◌++◌, codes}
use Rattle.std.specs.List.{repeat}

abbrev pub declarations : List ℕ
declarations =
    codes "var m: low;\n"
    ++ codes "var b: low when m == 0;\n"
    ++ codes "var k: high;\n"
    ++ codes "var x: high;\n"
    ++ codes "var o: low;\n"
    ++ codes "lock l hide m, b;\n"

abbrev pub writer_round : List ℕ
writer_round =
    codes "  lock l;\n"
    ++ codes "  b := k;\n"
    ++ codes "  m := 1;\n"
    ++ codes "  unlock l by { 1: have [1 == 0] (rev 1 [_ == 0] (hyp 2)) (clash 3) };\n"
    ++ codes "  lock l;\n"
    ++ codes "  b := 0;\n"
    ++ codes "  m := 0;\n"
    ++ codes "  unlock l;\n"

abbrev pub reader_round : List ℕ
reader_round =
    codes "  lock l;\n"
    ++ codes "  if m == 0 {\n"
    ++ codes "    x := b as 1;\n"
    ++ codes "  } else {\n"
    ++ codes "    x := 0;\n"
    ++ codes "  } join { ; b: m == 0, x: 1 }\n"
    ++ codes "  unlock l;\n"
    ++ codes "  o := x;\n"

-- a thread that does the same in each round
abbrev pub thread : (head round : List ℕ) → (rounds : ℕ) → List ℕ
thread head round rounds = head ++ repeat rounds round ++ codes "}\n"

unfoldable pub big : (rounds : ℕ) → List ℕ
big rounds =
    declarations
    ++ thread (codes "thread w guarantee hide x {\n") writer_round rounds
    ++ thread (codes "thread r assume hide x {\n") reader_round rounds
