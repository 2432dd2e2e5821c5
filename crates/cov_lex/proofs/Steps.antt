-- One piece read: what the loop of `tokens` keeps.
use Rattle.std.proofs.Common.{◌≡◌, ℕ, zero, suc, ◌+◌, ◌-◌, ◌≤◌, ◌<◌, List, [], ◌∷◌, ◌++◌, length, map, drop, take, length-drop, Ok, Err, refl, sym, ap, subst, ◌∙◌, arith, append_assoc, append-nil, drop_of_length-le, Result, IfOk}
use Rattle.std.proofs.Math.Seq.{take-length}
use Rattle.std.proofs.lemmas.List.{drop-drop}
use Rattle.cov_expr.specs.declared.kind.Kind.{Kind}
use Rattle.cov_grammar.specs.declared.token.Token as grammar
use Rattle.cov_lex.specs.declared.token.Token.{Token}
use Rattle.cov_lex.specs.declared.token.TokenKind.{TokenKind}
use Rattle.cov_lex.specs.declared.piece.Piece.TheVariants as code
use Rattle.cov_lex.specs.declared.fault.LexFault.{LexFault}
use Rattle.cov_lex.specs.Classified.{kind_of, number_value, classified, all_classified}
use Rattle.cov_lex.specs.Inside.{with_kind}
use Rattle.cov_lex.specs.Tokens.{bytes_of}
use Rattle.cov_lex.specs.Lexing.{Piece, Gap, Part, Lexed, piece_at, tokens_from, token_and_rest, piece_and_rest}
use Rattle.cov_lex.proofs.Pieces.{piece_good, IsPiece, HasBytes}

-- tokens in front of a reading
abbrev pub onto : {A : Type 0} → List A → Result (List A) LexFault → Result (List A) LexFault
onto ts (Ok us) = Ok (ts ++ us)
onto ts (Err fault) = Err fault

-- a token in front of those of the rest
onto_push : (text : List ℕ) (cs : List grammar.Token) (t : Token) (reading : Lexed) → onto (cs ++ classified text t ∷ []) (all_classified text reading) ≡ onto cs (all_classified text (token_and_rest t reading))
onto_push text cs t (Ok us) = ap Ok (append_assoc cs (classified text t ∷ []) (map (classified text) us))
onto_push text cs t (Err fault) = refl

-- the bytes of a piece are skipped
skipped : (n at : ℕ) (bs : List ℕ) → n ≤ length bs → tokens_from n at bs ≡ tokens_from 0 (at + n) (drop n bs)
skipped zero at bs h = ap (λ k. tokens_from 0 k bs) (omega arith)
skipped (suc n) at [] h = let no : ⊥ = omega arith in absurd no
skipped (suc n) at (b ∷ bs) h = skipped n (at + 1) bs (omega arith) ∙ ap (λ k. tokens_from 0 k (drop n bs)) (omega arith)

pub rest : (n at b : ℕ) (bs : List ℕ) → HasBytes n (b ∷ bs) → tokens_from (n - 1) (at + 1) bs ≡ tokens_from 0 (at + n) (drop n (b ∷ bs))
rest zero at b bs h = let no : ⊥ = omega (arith, h.0) in absurd no
rest (suc n) at b bs h =
    ap (λ k. tokens_from k (at + 1) bs) (omega arith)
    ∙ skipped n (at + 1) bs (omega (arith, h.1)) ∙ ap (λ k. tokens_from 0 k (drop n bs)) (omega arith)

piece_is : (at : ℕ) (bs : List ℕ) (p : Piece) → 0 < length bs → piece_at at bs ≡ Ok p → IsPiece bs p
piece_is at [] p l e = let no : ⊥ = omega arith in absurd no
piece_is at (b ∷ bs) p l e = subst (λ r. IfOk r (IsPiece (b ∷ bs))) e (piece_good at b bs)

gap_step : (n at : ℕ) (bs : List ℕ) → 0 < length bs → piece_at at bs ≡ Ok (Gap n) → tokens_from 0 (at + n) (drop n bs) ≡ tokens_from 0 at bs
gap_step n at [] l e = let no : ⊥ = omega arith in absurd no
gap_step n at (b ∷ bs) l e = sym (rest n at b bs (piece_is at (b ∷ bs) (Gap n) l e)) ∙ sym (ap (λ r. piece_and_rest r at (λ k. tokens_from k (at + 1) bs)) e)

part_step : (kind : TokenKind) (n at : ℕ) (bs : List ℕ) → 0 < length bs → piece_at at bs ≡ Ok (Part kind n) → token_and_rest (record { kind = kind; at = at; end = at + n }) (tokens_from 0 (at + n) (drop n bs)) ≡ tokens_from 0 at bs
part_step kind n at [] l e = let no : ⊥ = omega arith in absurd no
part_step kind n at (b ∷ bs) l e =
    ap (token_and_rest (record { kind = kind; at = at; end = at + n })) (sym (rest n at b bs (piece_is at (b ∷ bs) (Part kind n) l e).0))
    ∙ sym (ap (λ r. piece_and_rest r at (λ k. tokens_from k (at + 1) bs)) e)

fault_step : (fault : LexFault) (at : ℕ) (bs : List ℕ) → 0 < length bs → piece_at at bs ≡ Err fault → tokens_from 0 at bs ≡ Err fault
fault_step fault at [] l e = let no : ⊥ = omega arith in absurd no
fault_step fault at (b ∷ bs) l e = ap (λ r. piece_and_rest r at (λ k. tokens_from k (at + 1) bs)) e

same_token : (j k : Kind) (v w at end : ℕ) → j ≡ k → v ≡ w → record { kind = j; at = at; end = end; value = v } ≡ (let c : grammar.Token = record { kind = k; at = at; end = end; value = w } in c)
same_token j k v w at end p q = ap (λ i. record { kind = i; at = at; end = end; value = v }) p ∙ ap (λ u. record { kind = k; at = at; end = end; value = u }) q

-- What code knows of a piece -----------------------------------------------------------------------------------

gap_of : (text : List ℕ) (n : ℕ) (r : Result Piece LexFault) → Ok (code.Gap n) ≡ with_kind text r → r ≡ Ok (Gap n)
gap_of text n (Ok (Gap m)) e = cc
gap_of text n (Ok (Part kind m)) e = cc
gap_of text n (Err fault) e = cc

fault_of : (text : List ℕ) (fault : LexFault) (r : Result Piece LexFault) → Err fault ≡ with_kind text r → r ≡ Err fault
fault_of text fault (Ok (Gap m)) e = cc
fault_of text fault (Ok (Part kind m)) e = cc
fault_of text fault (Err other) e = cc

record IsPart (text : List ℕ) (kind : Kind) (value n : ℕ) (r : Result Piece LexFault) : Type 0 where
  called : TokenKind
  is : r ≡ Ok (Part called n)
  kind_is : kind ≡ kind_of called (take n text)
  value_is : value ≡ number_value called

part_of : (text : List ℕ) (kind : Kind) (value n : ℕ) (r : Result Piece LexFault) → Ok (code.Part kind value n) ≡ with_kind text r → IsPart text kind value n r
part_of text kind value n (Ok (Gap m)) e = cc
part_of text kind value n (Ok (Part called m)) e =
    let m_is : n ≡ m = cc in
    record { called = called; is = ap (λ k. Ok (Part called k)) (sym m_is); kind_is = rw m_is (cc); value_is = cc }
part_of text kind value n (Err fault) e = cc

-- The same at a place of a text --------------------------------------------------------------------------------

-- what is left of a text, as its slice
abbrev pub left : ℕ → List ℕ → List ℕ
left at bs = take (length bs - at) (drop at bs)

module _ (at : ℕ) (bs : List ℕ) (inside : at < length bs) where
  some_left : 0 < length (drop at bs)
  some_left = rw length-drop (omega arith)

  left_is : left at bs ≡ drop at bs
  left_is = ap (λ n. take n (drop at bs)) (sym (length-drop at bs)) ∙ take-length (drop at bs)

  here : (r : Result Piece LexFault) → piece_at at (left at bs) ≡ r → piece_at at (drop at bs) ≡ r
  here r e = ap (piece_at at) (sym (left_is)) ∙ e

  fits : (n : ℕ) → HasBytes n (drop at bs) → at + n ≤ length bs
  fits n h = omega (arith, h.1, length-drop at bs)

  pub gap_fits : (n : ℕ) → Ok (code.Gap n) ≡ with_kind (left at bs) (piece_at at (left at bs)) → at + n ≤ length bs
  gap_fits n e = fits n (piece_is at (drop at bs) (Gap n) some_left (here (Ok (Gap n)) (gap_of (left at bs) n (piece_at at (left at bs)) e)))

  pub part_fits : (kind : Kind) (value n : ℕ) → Ok (code.Part kind value n) ≡ with_kind (left at bs) (piece_at at (left at bs)) → at + n ≤ length bs
  part_fits kind value n e =
      let p = part_of (left at bs) kind value n (piece_at at (left at bs)) e in
      fits n (piece_is at (drop at bs) (Part p.called n) some_left (here (Ok (Part p.called n)) p.is)).0

  pub gap_read : (cs : List grammar.Token) (n : ℕ) → Ok (code.Gap n) ≡ with_kind (left at bs) (piece_at at (left at bs))
      → onto cs (all_classified bs (tokens_from 0 (at + n) (drop (at + n) bs))) ≡ onto cs (all_classified bs (tokens_from 0 at (drop at bs)))
  gap_read cs n e =
      ap (λ r. onto cs (all_classified bs r))
      (ap (tokens_from 0 (at + n)) (sym (drop-drop n at bs)) ∙ gap_step n at (drop at bs) some_left (here (Ok (Gap n)) (gap_of (left at bs) n (piece_at at (left at bs)) e)))

  pub part_read : (cs us : List grammar.Token) (kind : Kind) (value n : ℕ) → Ok (code.Part kind value n) ≡ with_kind (left at bs) (piece_at at (left at bs))
      → us ≡ cs ++ record { kind = kind; at = at; end = at + n; value = value } ∷ []
      → onto us (all_classified bs (tokens_from 0 (at + n) (drop (at + n) bs))) ≡ onto cs (all_classified bs (tokens_from 0 at (drop at bs)))
  part_read cs us kind value n e pushed =
      let p = part_of (left at bs) kind value n (piece_at at (left at bs)) e in
      let t : Token = record { kind = p.called; at = at; end = at + n } in
      let bytes : take n (left at bs) ≡ bytes_of bs t = ap (take n) left_is ∙ ap (λ m. take m (drop at bs)) (omega arith) in
      let same : record { kind = kind; at = at; end = at + n; value = value } ≡ classified bs t = same_token kind (kind_of p.called (bytes_of bs t)) value (number_value p.called) (at) (at + n) (p.kind_is ∙ ap (kind_of p.called) bytes) p.value_is in
      let later = tokens_from 0 (at + n) (drop (at + n) bs) in
      ap (λ vs. onto vs (all_classified bs later)) (pushed ∙ ap (λ c. cs ++ c ∷ []) same)
      ∙ onto_push bs cs t later
      ∙ ap (λ r. onto cs (all_classified bs r))
      (ap (λ vs. token_and_rest t (tokens_from 0 (at + n) vs)) (sym (drop-drop n at bs)) ∙ part_step p.called n at (drop at bs) some_left (here (Ok (Part p.called n)) p.is))

  pub fault_read : (cs : List grammar.Token) (fault : LexFault) → Err fault ≡ with_kind (left at bs) (piece_at at (left at bs)) → onto cs (all_classified bs (tokens_from 0 at (drop at bs))) ≡ Err fault
  fault_read cs fault e =
      ap (λ r. onto cs (all_classified bs r)) (fault_step fault at (drop at bs) some_left (here (Err fault) (fault_of (left at bs) fault (piece_at at (left at bs)) e)))

-- at the end
pub end_read : (cs : List grammar.Token) (at : ℕ) (bs : List ℕ) → length bs ≤ at → onto cs (all_classified bs (tokens_from 0 at (drop at bs))) ≡ Ok cs
end_read cs at bs past = ap (λ us. onto cs (all_classified bs (tokens_from 0 at us))) (drop_of_length-le bs past) ∙ ap Ok (append-nil cs)
