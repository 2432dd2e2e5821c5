-- Where the type of a value for which none is written isn't over stable controls, the line of V4 tells of the first variable whose class isn't.
use Rattle.std.proofs.Common.{◌≡◌, ℕ, ◌<◌, ◌&&◌, ◌||◌, List, [], ◌∷◌, ◌++◌, length, Bool, true, false, not, if◌then◌else◌, IsTrue, Option, Some, None, true≢false, refl, sym, ap, ◌∙◌}
use Rattle.std.specs.List.{list_all}
use Rattle.std.proofs.lemmas.Bool.{and_parts, eq-eqb, or_left, or_parts, or_right}
use Rattle.cov_expr.specs.Term.{Term, const, var, neg, bin}
use Rattle.cov_expr.specs.Trees.{has_number, mentions, occurrences, vars}
use Rattle.cov_expr.specs.Words.{HasVarsBelow}
use Rattle.cov_expr.proofs.Trees.{occurs}
use Rattle.cov_ast.specs.Declarations.{class_of, is_control, no_var}
use Rattle.cov_ast.specs.Plain.{plain}
use Rattle.cov_ast.specs.Syntax.{Program}
use Rattle.cov_ast.specs.Tables.{has, table}
use Rattle.cov_ast.specs.WellFormed.{IsWellFormed}
use Rattle.cov_ast.proofs.TableLaws.{table_at}
use Rattle.mode_state.specs.Sets.{is_stable}
use Rattle.point_law.specs.Point.{controls_of, is_over_controls, is_tracked, ty, ty_var, type_at, Point}
use Rattle.point_law.specs.Terms.{each_variable}
use Rattle.statement_paths.specs.VariableSets.{stable}
use Rattle.text_parts.specs.VariableNames.{variable_names}
use Rattle.typing_law.proofs.Soundness.Static.{control_of, each_gives}
use Rattle.typing_rules.proofs.LargeTypes.{controls_of_type}
use Rattle.refusal_names.proofs.OutsideSets.{found_fails, passes, vars_below, AreBelow}
use Rattle.refusal_names.proofs.UnstableLaws as unstable_laws
use Rattle.refusal_names.specs.NameLines.{class_or_type_line}
use Rattle.refusal_names.specs.OutsideVariables.{control_or, first_unstable_class, outside}
use Rattle.refusal_names.specs.ToldTypes.{AreTypesOverControls, TellsOfClass}
use Rattle.refusal_names.specs.UnstableVariables.{unstable_line}

-- Tests of variables -------------------------------------------------------------------------------------------

-- what passes one test, while each of its variables passes another, passes both
both_pass : (f g : ℕ → Bool) (e : Term) → ((c : ℕ) → IsTrue (mentions e c) → g c ≡ true) → each_variable f e ≡ true → each_variable (λ c. f c && g c) e ≡ true
both_pass f g (const k) each h = refl
both_pass f g (var x) each h = ap (λ b. b && g x) h ∙ each x (eq-eqb x x refl)
both_pass f g (neg e) each h = both_pass f g e each h
both_pass f g (bin op a b) each h =
    let parts = and_parts (each_variable f a) (each_variable f b) h in
    ap (λ v. v && each_variable (λ c. f c && g c) b) (both_pass f g a (λ c m. each c (or_left (mentions a c) (mentions b c) m)) parts.0)
    ∙ both_pass f g b (λ c m. each c (or_right (mentions a c) (mentions b c) m)) parts.1

-- in an expression of which each variable passes two tests, none is outside of the set of the first
none_outside : (n : ℕ) (f g : ℕ → Bool) (e : Term) → HasVarsBelow e n → each_variable (λ c. f c && g c) e ≡ true
    → (o : Option ℕ) → outside (table n f) e ≡ o → o ≡ None
none_outside n f g e below h None is = refl
none_outside n f g e below h (Some x) is =
    let it = found_fails n f e below x is in
    let both = each_gives (λ c. f c && g c) e x h (sym (occurs e x) ∙ it.1) in
    absurd (true≢false (sym (and_parts (f x) (g x) both).0 ∙ it.2))

-- Variables of a value -----------------------------------------------------------------------------------------

module _ (p : Program) (formed : IsWellFormed p) (bytes : List ℕ) (t : ℕ) (a : Point) where
  abbrev cause : ℕ → List ℕ
  cause x = unstable_line (variable_names p.vars) bytes p.locks a.held x

  -- whether the type of a variable is over stable controls
  abbrev is_over : ℕ → Bool
  is_over y = is_over_controls (plain p) t a.held (ty_var (plain p) t a y)

  abbrev is_asked : ℕ → Bool
  is_asked y = has (stable (plain p) t a.held) y || has (controls_of (plain p)) y

  abbrev first_class : List ℕ → Option (ℕ × ℕ)
  first_class ys = first_unstable_class (plain p) (stable (plain p) t a.held) (controls_of (plain p)) ys

  -- what is found by the first variable, and what the others give
  abbrev by_head : (y : ℕ) → (skipped : Bool) → (found : Option ℕ) → Option (ℕ × ℕ) → Option (ℕ × ℕ)
  by_head y skipped found later = if skipped then later else control_or y found later

  -- of a variable that is neither stable nor a control, the type is the class
  type_is_class : (y : ℕ) → is_stable (plain p) t a.held y ≡ false → is_control (plain p) y ≡ false → ty_var (plain p) t a y ≡ class_of (plain p) y
  type_is_class y unstable other =
      ap (λ b. if b then const 1 else (if is_tracked (plain p) t a.held y then type_at a y else class_of (plain p) y)) other
      ∙ ap (λ b. if b && not (is_control (plain p) y) then type_at a y else class_of (plain p) y) unstable

  class_below : (y : ℕ) → y < length p.vars → HasVarsBelow (class_of (plain p) y) (length p.vars)
  class_below y inside = formed.ids.classes y no_var inside

  -- A variable whose type is over stable controls is skipped, or its class is.
  none_found : (y : ℕ) → y < length p.vars → is_over y ≡ true → is_asked y ≡ false → outside (stable (plain p) t a.held) (class_of (plain p) y) ≡ None
  none_found y inside over asked =
      let both = or_parts (has (stable (plain p) t a.held) y) (has (controls_of (plain p)) y) asked in
      let unstable = sym (table_at (length p.vars) (is_stable (plain p) t a.held) y inside) ∙ both.0 in
      let other = sym (table_at (length p.vars) (is_control (plain p)) y inside) ∙ both.1 in
      none_outside (length p.vars) (is_stable (plain p) t a.held) (is_control (plain p)) (class_of (plain p) y) (class_below y inside)
      (sym (ap (is_over_controls (plain p) t a.held) (type_is_class y unstable other)) ∙ over)
      (outside (stable (plain p) t a.held) (class_of (plain p) y)) refl

  passed : (y : ℕ) (ys : List ℕ) → y < length p.vars → is_over y ≡ true → (b : Bool) → is_asked y ≡ b → first_class (y ∷ ys) ≡ first_class ys
  passed y ys inside over true skipped =
      ap (λ b. by_head y b (outside (stable (plain p) t a.held) (class_of (plain p) y)) (first_class ys)) skipped
  passed y ys inside over false asked =
      ap (λ b. by_head y b (outside (stable (plain p) t a.held) (class_of (plain p) y)) (first_class ys)) asked
      ∙ ap (λ o. control_or y o (first_class ys)) (none_found y inside over asked)

  -- where each passes, none is found
  pub none_of_all : (ys : List ℕ) → AreBelow (length p.vars) ys → list_all is_over ys ≡ true → first_class ys ≡ None
  none_of_all [] below over = refl
  none_of_all (y ∷ ys) below over =
      let parts = and_parts (is_over y) (list_all is_over ys) over in
      passed y ys below.0 parts.0 (is_asked y) refl ∙ none_of_all ys below.1 parts.1

  -- The first of variables whose type isn't over stable controls, with a control of its class.
  record FirstClass (ys : List ℕ) : Type 0 where
    pub before : List ℕ
    pub y : ℕ
    pub after : List ℕ
    pub is : ys ≡ before ++ y ∷ after
    pub first : list_all is_over before ≡ true
    pub other : is_control (plain p) y ≡ false
    pub unstable : is_stable (plain p) t a.held y ≡ false
    pub c : ℕ
    pub occurs : has_number (occurrences (class_of (plain p) y)) c ≡ true
    pub control : is_control (plain p) c ≡ true
    pub control_unstable : is_stable (plain p) t a.held c ≡ false
    pub found : first_class ys ≡ Some (y, c)

  module _ (over : AreTypesOverControls p t a) where
    -- a variable whose type isn't over stable controls is no control, and isn't stable
    no_control : (y : ℕ) → is_over y ≡ false → (b : Bool) → is_control (plain p) y ≡ b → b ≡ false
    no_control y fails false is = refl
    no_control y fails true is =
        absurd (true≢false (ap (λ b. is_over_controls (plain p) t a.held (if b then const 1 else (if is_tracked (plain p) t a.held y then type_at a y else class_of (plain p) y))) (sym is)
        ∙ fails))

    not_stable : (y : ℕ) → is_over y ≡ false → is_control (plain p) y ≡ false → (b : Bool) → is_stable (plain p) t a.held y ≡ b → b ≡ false
    not_stable y fails other false is = refl
    not_stable y fails other true is =
        let tracked : is_tracked (plain p) t a.held y ≡ true = ap (λ b. b && not (is_control (plain p) y)) is ∙ ap not other in
        let type : ty_var (plain p) t a y ≡ type_at a y =
        ap (λ b. if b then const 1 else (if is_tracked (plain p) t a.held y then type_at a y else class_of (plain p) y)) other
        ∙ ap (λ b. if b then type_at a y else class_of (plain p) y) tracked in
        absurd (true≢false (sym (over y tracked) ∙ sym (ap (is_over_controls (plain p) t a.held) type) ∙ fails))

    -- by the first of its class that isn't stable
    by_outside : (y : ℕ) (ys : List ℕ) → y < length p.vars → is_over y ≡ false → is_control (plain p) y ≡ false → is_stable (plain p) t a.held y ≡ false
        → (o : Option ℕ) → outside (stable (plain p) t a.held) (class_of (plain p) y) ≡ o → FirstClass (y ∷ ys)
    by_outside y ys inside fails other unstable None none =
        let passing = passes (length p.vars) (is_stable (plain p) t a.held) (class_of (plain p) y) (class_below y inside) none in
        let both = both_pass (is_stable (plain p) t a.held) (is_control (plain p)) (class_of (plain p) y) (control_of (plain p) y) passing in
        absurd (true≢false (sym both ∙ sym (ap (is_over_controls (plain p) t a.held) (type_is_class y unstable other)) ∙ fails))
    by_outside y ys inside fails other unstable (Some c) some =
        let it = found_fails (length p.vars) (is_stable (plain p) t a.held) (class_of (plain p) y) (class_below y inside) c some in
        let asked : is_asked y ≡ false =
        ap (λ b. b || has (controls_of (plain p)) y) (table_at (length p.vars) (is_stable (plain p) t a.held) y inside ∙ unstable)
        ∙ table_at (length p.vars) (is_control (plain p)) y inside ∙ other in
        record {
          before = [];
          y = y;
          after = ys;
          is = refl;
          first = refl;
          other = other;
          unstable = unstable;
          c = c;
          occurs = it.1;
          control = control_of (plain p) y c (sym (occurs (class_of (plain p) y) c) ∙ it.1);
          control_unstable = it.2;
          found =
              ap (λ b. by_head y b (outside (stable (plain p) t a.held) (class_of (plain p) y)) (first_class ys)) asked
              ∙ ap (λ o. control_or y o (first_class ys)) some;
        }

    by_first : (y : ℕ) (ys : List ℕ) → y < length p.vars → (is_over y && list_all is_over ys) ≡ false → (list_all is_over ys ≡ false → FirstClass ys)
        → (b : Bool) → is_over y ≡ b → FirstClass (y ∷ ys)
    by_first y ys inside broken rest true is =
        let r = rest (sym (ap (λ b. b && list_all is_over ys) is) ∙ broken) in
        record {
          before = y ∷ r.before;
          y = r.y;
          after = r.after;
          is = ap (λ l. y ∷ l) r.is;
          first = ap (λ b. b && list_all is_over r.before) is ∙ r.first;
          other = r.other;
          unstable = r.unstable;
          c = r.c;
          occurs = r.occurs;
          control = r.control;
          control_unstable = r.control_unstable;
          found = passed y ys inside is (is_asked y) refl ∙ r.found;
        }
    by_first y ys inside broken rest false is =
        let other = no_control y is (is_control (plain p) y) refl in
        let unstable = not_stable y is other (is_stable (plain p) t a.held y) refl in
        by_outside y ys inside is other unstable (outside (stable (plain p) t a.held) (class_of (plain p) y)) refl

    first_of : (ys : List ℕ) → AreBelow (length p.vars) ys → list_all is_over ys ≡ false → FirstClass ys
    first_of [] below broken = absurd (true≢false broken)
    first_of (y ∷ ys) below broken = by_first y ys below.0 broken (λ left. first_of ys below.1 left) (is_over y) refl

    -- The value of an expression -------------------------------------------------------------------------------

    by_class : (e : Term) (type : List ℕ) → FirstClass (vars e)
        → TellsOfClass p bytes t a e (class_or_type_line (variable_names p.vars) cause (first_class (vars e)) type)
    by_class e type f = record {
      before = f.before;
      y = f.y;
      after = f.after;
      is = f.is;
      first = f.first;
      other = f.other;
      unstable = f.unstable;
      c = f.c;
      occurs = f.occurs;
      cause = cause f.c;
      why = record { control = f.control; unstable = f.control_unstable; why = unstable_laws.told p bytes t f.c a.held f.control_unstable };
      told = ap (λ o. class_or_type_line (variable_names p.vars) cause o type) f.found;
    }

    pub told : (e : Term) → HasVarsBelow e (length p.vars) → is_over_controls (plain p) t a.held (ty (plain p) t a e) ≡ false → (type : List ℕ)
        → TellsOfClass p bytes t a e (class_or_type_line (variable_names p.vars) cause (first_class (vars e)) type)
    told e below broken type =
        by_class e type (first_of (vars e) (vars_below (length p.vars) e below) (sym (controls_of_type (plain p) t a e) ∙ broken))

  -- where the type is over stable controls, another line is told
  pub none_told : (e : Term) → HasVarsBelow e (length p.vars) → is_over_controls (plain p) t a.held (ty (plain p) t a e) ≡ true → (type : List ℕ)
      → class_or_type_line (variable_names p.vars) cause (first_class (vars e)) type ≡ type
  none_told e below over type =
      ap (λ o. class_or_type_line (variable_names p.vars) cause o type)
      (none_of_all (vars e) (vars_below (length p.vars) e below) (sym (controls_of_type (plain p) t a e) ∙ over))
