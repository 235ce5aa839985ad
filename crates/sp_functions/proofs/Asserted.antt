-- An assertion that breaks nothing is well-formed.
use Rattle.std.proofs.Common.{◌≡◌, refl, sym, ◌∙◌, ap, subst, rules, arith, ℕ, suc, ◌+◌, ◌≤◌, List, [], ◌∷◌, ◌++◌, true, false, Some, length, map}
use Rattle.std.specs.Prelude.{if◌then◌else◌, IsTrue, nat_lt, nat_le, min, ◌&&◌}
use Rattle.std.specs.List.{All}
use Rattle.std.proofs.lemmas.List.Elements.{All-nil, All-push}
use Rattle.sp_text.specs.declared.fault.Quantity.TheVariants as quantity
use Rattle.sp_text.specs.declared.fault.Rule.TheVariants as rule
use Rattle.sp_text.specs.declared.fault.Span.{Span}
use Rattle.sp_text.specs.declared.limits.TheConstants.{MOST_EXPRESSION_NODES, MOST_HEIGHT, MOST_QUANTIFIERS}
use Rattle.sp_text.specs.Firsts.{behind}
use Rattle.sp_text.specs.Violations.{exceeds}
use Rattle.sp_values.specs.declared.value.Ty.TheVariants as ty
use Rattle.sp_values.specs.declared.value.Value.TheVariants as value
use Rattle.sp_core.specs.declared.function.Formal.{Formal}
use Rattle.sp_core.specs.Machine.{types_of}
use Rattle.sp_core.specs.Measures.{LooksAt, Nothing, nodes, quantifiers}
use Rattle.sp_core.specs.Tree.{Tree, Const, tree}
use Rattle.sp_core.specs.Typing.{Signature, is_finite}
use Rattle.sp_core.specs.WellFormed.{IsExpression}
use Rattle.sp_expand.specs.Sizes.{height, size, within}
use Rattle.sp_expand.specs.declared.size.Size.{Size}
use Rattle.sp_expand.proofs.Limits.{size-is, sized}
use Rattle.sp_plain.specs.Text.{Text, Name, Number, Truth, Unknown, Bottom, Top, Call, New, Paren, Not, Binary, Join, If, Quant, span}
use Rattle.sp_scopes.specs.declared.heads.Local.{Local}
use Rattle.sp_judge.specs.declared.scope.Site.TheVariants as site
use Rattle.sp_judge.specs.Visible.{Visible}
use Rattle.sp_judge.specs.Names.{type_of, with_formal}
use Rattle.sp_judge.specs.Translation.{binders, translation}
use Rattle.sp_judge.specs.Broken.{asks, broken, formal_rules, twice_rule, type_rules}
use Rattle.sp_judge.proofs.Scoped.{length-with}
use Rattle.sp_definitions.specs.Definitions.{kept}
use Rattle.sp_typed.specs.Fits.{types, AreTypes, IsScopeOf, AreNumbers}
use Rattle.sp_typed.proofs.Fitting.{append_left, append_right, behind_inner, behind_own}
use Rattle.sp_typed.proofs.Typed.{finite, formal_types, typed, types-length, with_types}
use Rattle.sp_typed.proofs.Quotes.{no_new}
use Rattle.sp_reads.specs.ReadTexts.{reads}
use Rattle.sp_functions.specs.Judged.{all_flags}
use Rattle.sp_functions.specs.Assertions.{assertion_limits, below, formal_of, leading}
use Rattle.sp_functions.specs.Laws.{AssertionLaw}
use Rattle.sp_functions.proofs.Known.{nothing}

-- what is known of an assertion's variables and of its body
pub record IsPeeled (sg : Signature) (s : Visible) (l : List Local) (b : Text) : Type 0 where
  pub locals : AreTypes sg l
  pub finites : All (λ t. IsTrue (is_finite sg t)) (types l)
  pub numbers : AreNumbers b
  pub fine : broken s site.Outside l (Some ty.Boolean) b ≡ []

bounds : (h q n : ℕ) (p : Span) (m : ℕ) →
    (if nat_lt MOST_HEIGHT h then exceeds p quantity.Height else []) ++ ((if nat_lt MOST_QUANTIFIERS (m + q) then exceeds p quantity.Quantifiers else []) ++ (if nat_lt MOST_EXPRESSION_NODES n then exceeds p quantity.ExpressionNodes else [])) ≡ [] →
    (h ≤ MOST_HEIGHT) × (n ≤ MOST_EXPRESSION_NODES) × (m + q ≤ MOST_QUANTIFIERS)
bounds h q n p m e = (grind (arith, rules), grind (arith, rules), grind (arith, rules))

low : (most n : ℕ) → n ≤ most → nat_le (min (suc most) n) most ≡ true
low most n h = grind (arith, rules)

-- within its limits it is kept
kept_body : (t : Tree) (p : Span) (m : ℕ) → assertion_limits p m t ≡ [] → kept t ≡ t
kept_body t p m h =
    let b = bounds (height t) (quantifiers t) (nodes t) p m h in
    let q : quantifiers t ≤ MOST_QUANTIFIERS = omega (arith, b.2) in
    let inside : within (sized (height t) (nodes t) (quantifiers t)) ≡ true = (λ i. low MOST_HEIGHT (height t) b.0 i && (low MOST_EXPRESSION_NODES (nodes t) b.1 i && low MOST_QUANTIFIERS (quantifiers t) q i)) in
    ap (λ b. if b then t else Const value.Unknown) (ap within (size-is t) ∙ inside)

formal_count : (fs : List Formal) → length (types_of fs) ≡ length fs
formal_count [] = refl
formal_count (f ∷ fs) = ap suc (formal_count fs)

formals_types : (l : List Local) → types_of (map formal_of l) ≡ types l
formals_types [] = refl
formals_types (x ∷ l) = ap (λ ts. x.ty ∷ ts) (formals_types l)

module _ (sg : Signature) (s : Visible) (w : IsScopeOf sg s) where
  peeled : (l : List Local) (e : Text) → AreTypes sg l → All (λ t. IsTrue (is_finite sg t)) (types l) → AreNumbers e → broken s site.Outside l (Some ty.Boolean) e ≡ [] → IsPeeled sg s (leading s l e) (below e)
  peeled l (Quant p true f b) a fs n h =
      let m = with_formal s l f in
      let body = broken s site.Outside m (Some ty.Boolean) b in
      let inner : behind (formal_rules s l f) body ≡ [] = behind_inner (behind (formal_rules s l f) body) (asks (Some ty.Boolean) p ty.Boolean) h in
      let rules' : type_rules s f.ty ≡ [] = append_left (type_rules s f.ty) (twice_rule l f) (behind_inner (formal_rules s l f) body inner) in
      let gs = subst (All (λ t. IsTrue (is_finite sg t))) (sym (formal_types sg s w l f)) (All-push (λ t. IsTrue (is_finite sg t)) (types l) (type_of s f.ty) fs (finite sg s w f.ty rules')) in
      let z = peeled m b (with_types sg s w l f a rules') gs n (behind_own (formal_rules s l f) body inner) in
      record { locals = z.locals; finites = z.finites; numbers = z.numbers; fine = z.fine }
  peeled l (Paren p b) a fs n h = let z = peeled l b a fs n h in record { locals = z.locals; finites = z.finites; numbers = z.numbers; fine = z.fine }
  peeled l (Quant p false f b) a fs n h = record { locals = a; finites = fs; numbers = n; fine = h }
  peeled l (Name p x) a fs n h = record { locals = a; finites = fs; numbers = n; fine = h }
  peeled l (Number p x) a fs n h = record { locals = a; finites = fs; numbers = n; fine = h }
  peeled l (Truth p x) a fs n h = record { locals = a; finites = fs; numbers = n; fine = h }
  peeled l (Unknown p) a fs n h = record { locals = a; finites = fs; numbers = n; fine = h }
  peeled l (Bottom p) a fs n h = record { locals = a; finites = fs; numbers = n; fine = h }
  peeled l (Top p) a fs n h = record { locals = a; finites = fs; numbers = n; fine = h }
  peeled l (Call p f ds) a fs n h = record { locals = a; finites = fs; numbers = n; fine = h }
  peeled l (New p f ds) a fs n h = record { locals = a; finites = fs; numbers = n; fine = h }
  peeled l (Not p b) a fs n h = record { locals = a; finites = fs; numbers = n; fine = h }
  peeled l (Binary p o b c) a fs n h = record { locals = a; finites = fs; numbers = n; fine = h }
  peeled l (Join p u b c) a fs n h = record { locals = a; finites = fs; numbers = n; fine = h }
  peeled l (If p c b d) a fs n h = record { locals = a; finites = fs; numbers = n; fine = h }

pub assertion : AssertionLaw
assertion sg s seen e n h a is =
    let l = leading s [] e in
    let b = below e in
    let t = translation s l b in
    let own = assertion_limits (span e) (length l) t in
    let rs = reads s (all_flags s.names.functions) rule.ReadsState l b in
    let inner = behind_inner (broken s site.Outside [] (Some ty.Boolean) e) (own ++ rs) h in
    let others = behind_own (broken s site.Outside [] (Some ty.Boolean) e) (own ++ rs) h in
    let z = peeled sg s seen.scope [] e tt (All-nil (λ t. IsTrue (is_finite sg t))) n inner in
    let few = bounds (height t) (quantifiers t) (nodes t) (span e) (length l) (append_left own rs others) in
    let typed' = typed sg s seen.scope site.Outside tt l z.locals (Some ty.Boolean) refl b z.numbers z.fine in
    let x : IsExpression sg (types l) t ty.Boolean = record { typed = typed'; few_nodes = few.1; few_quantifiers = omega (arith, few.2); no_new = no_new s site.Outside tt seen.fresh l (Some ty.Boolean) b z.fine } in
    let same : tree a.body ≡ t = is.body ∙ kept_body t (span e) (length l) (append_left own rs others) in
    let vars : types_of a.vars ≡ types l = ap types_of is.vars ∙ formals_types l in
    record {
      variables = subst (All (λ t. IsTrue (is_finite sg t))) (sym vars) z.finites;
      body = subst (λ xs. IsExpression sg xs (tree a.body) ty.Boolean) (sym vars) (subst (λ z. IsExpression sg (types l) z ty.Boolean) (sym same) x);
      reads_nothing = subst (LooksAt Nothing Nothing) (sym same) (nothing sg s seen rule.ReadsState l ty.Boolean b typed' (append_right own rs others));
      few_quantifiers = omega (arith, few.2, formal_count a.vars, ap length vars, types-length l, ap quantifiers same);
    }

-- For the code

-- the variables of an assertion and what its body binds are no more than it binds
pub leading_room : (s : Visible) (l : List Local) (e : Text) → length (leading s l e) + binders (below e) ≤ length l + binders e
leading_room s l (Quant p true f b) = omega (arith, leading_room s (with_formal s l f) b, length-with s l f)
leading_room s l (Paren p b) = leading_room s l b
leading_room s l (Quant p false f b) = omega arith
leading_room s l (Name p x) = omega arith
leading_room s l (Number p x) = omega arith
leading_room s l (Truth p x) = omega arith
leading_room s l (Unknown p) = omega arith
leading_room s l (Bottom p) = omega arith
leading_room s l (Top p) = omega arith
leading_room s l (Call p f ds) = omega arith
leading_room s l (New p f ds) = omega arith
leading_room s l (Not p b) = omega arith
leading_room s l (Binary p o b c) = omega arith
leading_room s l (Join p u b c) = omega arith
leading_room s l (If p c b d) = omega arith

-- what a size tells of the limits
pub high_is : (t : Tree) (x : Size) → x ≡ size t → nat_lt MOST_HEIGHT x.height ≡ nat_lt MOST_HEIGHT (height t)
high_is t x h = ap (λ z. nat_lt MOST_HEIGHT z.height) (h ∙ size-is t) ∙ same (height t)
  where
    same : (n : ℕ) → nat_lt MOST_HEIGHT (min (suc MOST_HEIGHT) n) ≡ nat_lt MOST_HEIGHT n
    same n = grind (arith, rules)

pub many_is : (t : Tree) (x : Size) → x ≡ size t → nat_lt MOST_EXPRESSION_NODES x.nodes ≡ nat_lt MOST_EXPRESSION_NODES (nodes t)
many_is t x h = ap (λ z. nat_lt MOST_EXPRESSION_NODES z.nodes) (h ∙ size-is t) ∙ same (nodes t)
  where
    same : (n : ℕ) → nat_lt MOST_EXPRESSION_NODES (min (suc MOST_EXPRESSION_NODES) n) ≡ nat_lt MOST_EXPRESSION_NODES n
    same n = grind (arith, rules)

pub nested_is : (t : Tree) (m : ℕ) (x : Size) → x ≡ size t → nat_lt MOST_QUANTIFIERS (m + x.quantifiers) ≡ nat_lt MOST_QUANTIFIERS (m + quantifiers t)
nested_is t m x h = ap (λ z. nat_lt MOST_QUANTIFIERS (m + z.quantifiers)) (h ∙ size-is t) ∙ same (quantifiers t)
  where
    same : (n : ℕ) → nat_lt MOST_QUANTIFIERS (m + min (suc MOST_QUANTIFIERS) n) ≡ nat_lt MOST_QUANTIFIERS (m + n)
    same n = grind (arith, rules)
