-- The code of a program beside its source, as text: of each thread the lines with their positions, and above those of a statement the number of its line
-- in the source and its first words, as a comment.
use Rattle.std.specs.Prelude.{ℕ, ◌+◌, ◌-◌, ◌==◌, nat_lt, List, [], ◌∷◌, ◌++◌, length, map, flat_map, get_or, take, drop, codes, decimal, if◌then◌else◌}
use Rattle.cov_ast.specs.Syntax.{Block, done, Thread, Program}
use Rattle.code_lines.specs.CodeShares.{Share, behind_block, block_shares}
use Rattle.code_lines.specs.declared.source.TheConstants.{MOST_SOURCE}
use Rattle.code_lines.specs.declared.walk.Role.{Role}
use Rattle.code_lines.specs.declared.walk.Role.TheVariants.{Whole, Guard, Past, Back}
use Rattle.code_text.specs.Listing.{spelled}
use Rattle.code_text.specs.Listing as listing
use Rattle.risc_machine.specs.declared.parts.Line.{Line}
use Rattle.risc_machine.specs.declared.parts.Parts.{Parts}
use Rattle.risc_machine.specs.declared.parts.ThreadCode.{ThreadCode}
use Rattle.text_parts.specs.Excerpts.{shown}
use Rattle.text_parts.specs.Lines.{is_feed, line}

-- Source -------------------------------------------------------------------------------------------------------

-- the bytes up to this one, with it, or up to the end of the line
abbrev pub to_stop : (stop : ℕ) → List ℕ → List ℕ
to_stop stop [] = []
to_stop stop (b ∷ bs) = if b == stop then b ∷ [] else (if is_feed b then [] else b ∷ to_stop stop bs)

-- the first words of the statement at a place up to a byte, as they are shown
abbrev pub source : (stop : ℕ) (bytes : List ℕ) (at : ℕ) → List ℕ
source stop bytes at = map shown (to_stop stop (take MOST_SOURCE (drop at bytes)))

-- what lines do for the statement at a place: of a whole one its words up to the semicolon, of a guard those up to the brace
abbrev pub role_words : (bytes : List ℕ) → Role → (at : ℕ) → List ℕ
role_words bytes Whole at = source 59 bytes at
role_words bytes Guard at = source 123 bytes at
role_words bytes Past at = codes "end of the first block, past the `else` block"
role_words bytes Back at = codes "end of the block, back to the guard"

-- the comment above lines, by the number of the line in the source
abbrev pub comment_with : (bytes : List ℕ) → Role → (number at : ℕ) → List ℕ
comment_with bytes role number at = codes "  // " ++ decimal number ++ codes ": " ++ role_words bytes role at ++ codes "\n"

abbrev pub comment : (bytes : List ℕ) → Role → (at : ℕ) → List ℕ
comment bytes role at = comment_with bytes role (line bytes at) at

-- Lines of code --------------------------------------------------------------------------------------------------

-- the blanks in front of a position, which make the digits of five columns end in one column
abbrev pub blanks : ℕ → List ℕ
blanks i =
    if nat_lt i 10 then codes "    "
    else (if nat_lt i 100 then codes "   " else (if nat_lt i 1000 then codes "  " else (if nat_lt i 10000 then codes " " else [])))

-- a position, with blanks around it
abbrev pub position : ℕ → List ℕ
position i = blanks i ++ decimal i ++ codes "  "

-- a line as it stands in the listing, behind its position
abbrev pub row : Parts → (i : ℕ) → Line → List ℕ
row c i l = position i ++ spelled (listing.line c.vars c.locks l)

-- lines, of which the first has this position
abbrev pub rows : Parts → (i : ℕ) → List Line → List ℕ
rows c i [] = []
rows c i (l ∷ ls) = row c i l ++ rows c (i + 1) ls

-- Threads --------------------------------------------------------------------------------------------------------

-- which thread it is, and how many lines it has
abbrev pub thread_front : (name : List ℕ) (total : ℕ) → List ℕ
thread_front name total = codes "thread " ++ name ++ codes ", lines of code: " ++ decimal total ++ codes "\n"

-- the position behind the last line, to which jumps may go
abbrev pub end_line : (total : ℕ) → List ℕ
end_line total = position total ++ codes "// the end of the thread\n"

-- of a program with these bytes and of this code
module _ (bytes : List ℕ) (c : Parts) where
  -- lines of a statement, under a comment
  abbrev pub share_lines : Share → List ℕ
  share_lines q = comment bytes q.role q.at ++ rows c q.from q.lines

  abbrev pub shares_lines : List Share → List ℕ
  shares_lines qs = flat_map share_lines qs

  -- The code of a thread with these statements: the lines of each statement, and what is left behind them, of which there is nothing in compiled code.
  abbrev pub thread_lines : Block → ThreadCode → List ℕ
  thread_lines b t =
      thread_front t.name (length t.lines) ++ shares_lines (block_shares (length t.lines) b t.lines)
      ++ rows c (length t.lines - length (behind_block b t.lines)) (behind_block b t.lines) ++ end_line (length t.lines)

  -- the code of threads, from the one of a number on
  abbrev pub threads_from : List Block → (t : ℕ) → List ThreadCode → List ℕ
  threads_from bodies t [] = []
  threads_from bodies t (k ∷ ks) = thread_lines (get_or bodies t done) k ++ threads_from bodies (t + 1) ks

abbrev pub bodies_of : List Thread → List Block
bodies_of threads = map (λ t. t.body) threads

-- the code of a program whose text these bytes are
abbrev pub code_lines : Program → Parts → (bytes : List ℕ) → List ℕ
code_lines p c bytes = threads_from bytes c (bodies_of p.threads) 0 c.threads
