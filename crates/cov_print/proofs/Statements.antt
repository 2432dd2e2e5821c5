-- The canonical tokens of states, statements and blocks spell them.
use Rattle.std.proofs.Common.{◌≡◌, ℕ, zero, suc, List, [], ◌∷◌, ◌++◌, Bool, false, Option, Some, None, map, option_map, flat_map, refl, sym, ap}
use Rattle.cov_expr.specs.Term.{Term}
use Rattle.cov_expr.specs.declared.kind.Kind.{Kind}
use Rattle.cov_expr.specs.declared.kind.Kind.TheVariants as k
use Rattle.cov_grammar.specs.declared.token.Token.{Token}
use Rattle.cov_grammar.specs.PlacedTrees as t
use Rattle.cov_grammar.specs.PlacedTrees.{Placed, stms}
use Rattle.cov_grammar.specs.Shapes.{rule, seq, opt, many, act, Sense, Spells}
use Rattle.cov_grammar.specs.Grammar.{◌▸◌, ◌◂◌, separated, listed, whole, proof, proofs, type_of_name, types, state, retype, assigned, branched, looped, statement, braces, body}
use Rattle.cov_grammar.specs.Spells.{Within}
use Rattle.cov_grammar.proofs.Senses.{close}
use Rattle.cov_ast.specs.Syntax as s
use Rattle.cov_text.specs.GivenTrees.{expr_of, cert_of, proof_of, pair_of, state_of, state_or_none, stm_of, proofs_of, block_of, stms_of}
use Rattle.cov_print.specs.Unplaced.{unplaced_stm, unplaced_block}
use Rattle.cov_print.proofs.Written as w
use Rattle.cov_print.proofs.Written.{Word, plain, commas}
use Rattle.cov_print.proofs.Keeps.{Kept, Keeps, recast, keeps_seq, keeps_act, keeps_alt, keeps_key, keeps_end, keeps_name, keeps_number, keeps_placed, keeps_opt, keeps_many, keeps_separated, keeps_so, keeps_listed, keeps_some, keeps_seen, keeps_token, keeps_word, keeps_line, separated_never, key_never, end_never, commas_map, flat_map_map}
use Rattle.cov_print.proofs.Operands.{expr_keeps}
use Rattle.cov_print.proofs.Certs.{cert_keeps}

module _ (known : ℕ → Bool) (S : Sense) (exprs : Keeps known S (rule t.expr) (λ e. e) (w.expr known false)) where
  pub whole_keeps : Keeps known S whole expr_of (λ e. w.whole known (expr_of e))
  whole_keeps = keeps_placed exprs

  pub maybe_keeps : (j : Kind) → Keeps known S (j ▸ whole) expr_of (λ e. plain j ∷ w.whole known (expr_of e)) → Keeps known S (opt (j ▸ whole)) (option_map expr_of) (λ e. w.maybe known j (option_map expr_of e))
  maybe_keeps j h = keeps_so (λ e. w.maybe known j (option_map expr_of e)) by (keeps_opt h)
    where
      by : (e : Option (Placed Term)) (ts : List Token) → Spells S (opt (j ▸ whole)) e ts → Rattle.cov_print.proofs.Keeps.optional (λ e. plain j ∷ w.whole known (expr_of e)) e ≡ w.maybe known j (option_map expr_of e)
      by None ts s = refl
      by (Some e) ts s = refl

  -- States -----------------------------------------------------------------------------------------------------

  preds_keep : Keeps known S (listed (separated k.Comma whole)) (map expr_of) (λ es. commas (w.whole known) (map expr_of es))
  preds_keep =
      keeps_listed refl
      (keeps_so (λ es. commas (w.whole known) (map expr_of es)) (λ es ts s. sym (commas_map expr_of (w.whole known) es)) (keeps_separated whole_keeps))

  type_keeps : Keeps known S type_of_name pair_of (λ x. w.typed known (pair_of x))
  type_keeps = keeps_seq keeps_name (keeps_key k.Colon (λ v. refl) whole_keeps)

  types_keep : Keeps known S types (map pair_of) (λ xs. w.types known (map pair_of xs))
  unfolding types
  types_keep =
      keeps_some (λ xs. w.types known (map pair_of xs)) (key_never k.Semicolon separated_never) refl (λ x xs. ap (λ l. plain k.Semicolon ∷ l) (sym (commas_map pair_of (w.typed known) (x ∷ xs))))
      (keeps_key k.Semicolon (λ v. refl) (keeps_separated type_keeps))

  pub state_keeps : Keeps known S state state_of (λ x. w.state known (state_of x))
  unfolding state
  state_keeps =
      keeps_act (λ x. record { at = x.0.at; preds = x.1.0; types = x.1.1 }) state_of (λ x. w.state known (state_of x)) (λ x. record { preds = x.1.0; types = x.1.1 }) (λ x. refl) (λ x. refl)
      (keeps_seq (keeps_token k.OpenBrace (tt {0}) (λ v. refl)) (keeps_end k.CloseBrace (λ v. refl) (keeps_seq preds_keep types_keep)))

  -- a state, which is left out where it is empty
  module _ (j : Kind) (keyed : Keeps known S (j ▸ state) state_of (λ x. plain j ∷ w.state known (state_of x))) where
    stated_at : (at : ℕ) (preds : List (Placed Term)) (ts : List (ℕ × Placed Term)) (us : List Token) → Spells S (j ▸ state) (record { at = at; preds = preds; types = ts }) us
        → Kept known (opt (j ▸ state)) state_or_none (record { preds = map expr_of preds; types = map pair_of ts }) (w.stated_of known j (map expr_of preds) (map pair_of ts)) us
    stated_at at [] [] us h =
        let m = keyed.kept (record { at = at; preds = []; types = [] }) us h in
        record { same = m.same; fit = λ g. tt; silent = λ g. tt; spelt = λ g ns are. (None, are, refl) }
    stated_at at (p ∷ ps) ts us h =
        let m = keyed.kept (record { at = at; preds = p ∷ ps; types = ts }) us h in
        record { same = m.same; fit = m.fit; silent = m.silent; spelt = λ g ns are. let n = m.spelt g ns are in (Some n.0, n.1, n.2) }
    stated_at at [] (x ∷ ts) us h =
        let m = keyed.kept (record { at = at; preds = []; types = x ∷ ts }) us h in
        record { same = m.same; fit = m.fit; silent = m.silent; spelt = λ g ns are. let n = m.spelt g ns are in (Some n.0, n.1, n.2) }

    pub stated_keeps : Keeps known S (opt (j ▸ state)) state_or_none (λ x. w.stated known j (state_or_none x))
    stated_keeps = record { kept = by }
      where
        by : (x : Option t.State) (ts : List Token) → Spells S (opt (j ▸ state)) x ts → Kept known (opt (j ▸ state)) state_or_none (state_or_none x) (w.stated known j (state_or_none x)) ts
        by None ts h = record { same = ap Rattle.cov_print.proofs.Keeps.leaves h; fit = λ g. tt; silent = λ g. tt; spelt = λ g ns are. (None, are, refl) }
        by (Some x) ts h = stated_at x.at x.preds x.types ts h

  -- Statements -------------------------------------------------------------------------------------------------

  retype_keeps : Keeps known S retype pair_of (λ x. w.retype known (pair_of x))
  unfolding retype
  retype_keeps = keeps_key k.Retype (λ v. refl) (keeps_seq keeps_name (keeps_key k.As (λ v. refl) whole_keeps))

  retypes_keep : Keeps known S (many retype) (map pair_of) (λ xs. flat_map (w.retype known) (map pair_of xs))
  retypes_keep = keeps_so (λ xs. flat_map (w.retype known) (map pair_of xs)) (λ xs ts s. sym (flat_map_map pair_of (w.retype known) xs)) (keeps_many retype_keeps)

  module _ (certs : Keeps known S (rule t.cert) cert_of (λ c. w.cert known (cert_of c))) where
    proof_keeps : Keeps known S proof proof_of (λ p. w.proof known (proof_of p))
    unfolding proof
    proof_keeps = keeps_seen proof_of (λ p. record { number = p.0; cert = p.1 }) (λ x. refl) (keeps_seq keeps_number (keeps_key k.Colon (λ v. refl) (keeps_placed certs)))

    proofs_keep : Keeps known S proofs (map proof_of) (λ ps. w.by known (map proof_of ps))
    unfolding proofs
    proofs_keep =
        keeps_some (λ ps. w.by known (map proof_of ps)) (key_never k.By (key_never k.OpenBrace (end_never k.CloseBrace separated_never))) refl
        (λ x xs. ap (λ l. plain k.By ∷ plain k.OpenBrace ∷ (l ++ plain k.CloseBrace ∷ [])) (sym (commas_map proof_of (w.proof known) (x ∷ xs))))
        (keeps_key k.By (λ v. refl) (keeps_key k.OpenBrace (λ v. refl) (keeps_end k.CloseBrace (λ v. refl) (keeps_separated proof_keeps))))

    module _ (blocks : Keeps known S (rule t.block) (λ b. unplaced_block (block_of b)) (λ b. w.braces known (block_of b))) where
      -- a statement and its proofs
      abbrev pub seen : t.Stm → s.Stm × List s.Proof
      seen x = (unplaced_stm (stm_of x), proofs_of x)

      abbrev pub words : t.Stm → List Word
      words x = w.stm known (stm_of x) (proofs_of x)

      assign_keeps : Keeps known S (act (λ x. t.assign x.0 x.1.0 x.1.1.0 x.1.1.1.0 x.1.1.1.1) (seq Rattle.cov_grammar.specs.Grammar.name assigned)) seen words
      unfolding assigned
      assign_keeps =
          keeps_act (λ x. t.assign x.0 x.1.0 x.1.1.0 x.1.1.1.0 x.1.1.1.1) seen words (λ x. (s.assign x.0 x.1.0 x.1.1.0 x.1.1.1.0, x.1.1.1.1)) (λ x. refl) (λ x. refl)
          (keeps_seq keeps_name
          (keeps_seq (keeps_key k.Assign (λ v. refl) whole_keeps)
          (keeps_seq (maybe_keeps k.As (keeps_key k.As (λ v. refl) whole_keeps)) (keeps_seq retypes_keep (keeps_end k.Semicolon (λ v. refl) proofs_keep)))))

      branch_keeps : Keeps known S (k.If ▸ branched) seen words
      unfolding branched
      branch_keeps =
          keeps_word k.If (λ x. t.branch x.0 x.1.0 x.1.1.0 x.1.1.1.0 x.1.1.1.1) seen words (λ x. (s.branch x.0 x.1.0 x.1.1.0 x.1.1.1.0, x.1.1.1.1)) (λ v. refl) (λ x. refl) (λ x. refl)
          (keeps_seq whole_keeps
          (keeps_seq blocks
          (keeps_seq (keeps_key k.Else (λ v. refl) blocks) (keeps_seq (stated_keeps k.Join (keeps_key k.Join (λ v. refl) state_keeps)) proofs_keep))))

      loop_keeps : Keeps known S (k.While ▸ looped) seen words
      unfolding looped
      loop_keeps =
          keeps_word k.While (λ x. t.loop x.0 x.1.0 x.1.1.0 x.1.1.1) seen words (λ x. (s.loop x.0 x.1.0 x.1.1.0, x.1.1.1)) (λ v. refl) (λ x. refl) (λ x. refl)
          (keeps_seq whole_keeps (keeps_seq (stated_keeps k.Inv (keeps_key k.Inv (λ v. refl) state_keeps)) (keeps_seq blocks proofs_keep)))

      statement_keeps : Keeps known S statement seen words
      unfolding statement
      statement_keeps =
          keeps_alt (keeps_word k.Skip (λ x. t.skip) seen words (λ x. (s.skip, [])) (λ v. refl) (λ x. refl) (λ x. refl) (keeps_token k.Semicolon (tt {0}) (λ v. refl)))
          (keeps_alt assign_keeps
          (keeps_alt (keeps_line (λ v. refl) (λ v. refl) (λ x y e. cc) (λ x. refl) keeps_name)
          (keeps_alt (keeps_line (λ v. refl) (λ v. refl) (λ x y e. cc (ap (λ p. p.0) e, ap (λ p. p.1) e)) (λ x. refl) (keeps_seq keeps_name proofs_keep))
          (keeps_alt branch_keeps
          (keeps_alt loop_keeps
          (keeps_alt (keeps_line (λ v. refl) (λ v. refl) (λ x y e. cc (ap (λ p. p.0) e, ap (λ p. p.1) e)) (λ x. refl) (keeps_seq state_keeps proofs_keep))
          (keeps_line (λ v. refl) (λ v. refl) (λ x y e. cc (ap (λ p. p.0) e, ap (λ p. p.1) e)) (λ x. refl) (keeps_seq whole_keeps proofs_keep))))))))

      -- Blocks -------------------------------------------------------------------------------------------------

      of_items : List (s.Stm × List s.Proof) → s.Block
      of_items [] = s.done
      of_items (x ∷ xs) = s.more 0 x.0 x.1 (of_items xs)

      items_seen : (xs : List (Placed t.Stm)) → unplaced_block (stms_of (stms xs)) ≡ of_items (map (λ x. seen x.1) xs)
      unfolding of_items
      items_seen [] = refl
      items_seen (x ∷ xs) = ap (s.more 0 (unplaced_stm (stm_of x.1)) (proofs_of x.1)) (items_seen xs)

      items_written : (xs : List (Placed t.Stm)) → w.block known (stms_of (stms xs)) ≡ flat_map (λ x. words x.1) xs
      items_written [] = refl
      items_written (x ∷ xs) = ap (λ l. words x.1 ++ l) (items_written xs)

      pub braces_keep : Keeps known S braces (λ b. unplaced_block (block_of b)) (λ b. w.braces known (block_of b))
      unfolding braces of_items
      braces_keep =
          keeps_act (λ x. t.block x.0.at x.1.1.at (stms x.1.0)) (λ b. unplaced_block (block_of b)) (λ b. w.braces known (block_of b)) (λ x. of_items x.1.0)
          (λ x. items_seen x.1.0) (λ x. ap (λ l. plain k.OpenBrace ∷ (l ++ plain k.CloseBrace ∷ [])) (items_written x.1.0))
          (keeps_seq (keeps_token k.OpenBrace (tt {0}) (λ v. refl)) (keeps_seq (keeps_many (keeps_placed statement_keeps)) (keeps_token k.CloseBrace (tt {0}) (λ v. refl))))

module _ (known : ℕ → Bool) where
  block_kept : (d : ℕ) (b : t.Block) (ts : List Token) → Within d t.block b ts → Kept known (rule t.block) (λ c. unplaced_block (block_of c)) (unplaced_block (block_of b)) (w.braces known (block_of b)) ts
  unfolding body
  block_kept zero b ts h = absurd h
  block_kept (suc d) b ts h =
      let m = (braces_keep known (Within d) (expr_keeps known d) (cert_keeps known d) (record { kept = block_kept d })).kept b ts h in
      record { same = m.same; fit = m.fit; silent = m.silent; spelt = λ g ns are. let n = m.spelt g ns are in (n.0, close t.block n.0 ns n.1, n.2) }

  pub block_keeps : (d : ℕ) → Keeps known (Within d) (rule t.block) (λ b. unplaced_block (block_of b)) (λ b. w.braces known (block_of b))
  block_keeps d = record { kept = block_kept d }
