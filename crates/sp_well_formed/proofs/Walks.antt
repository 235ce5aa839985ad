-- All functions of a specification, one after the other: each is well-formed, with the depths of those before it.
use Rattle.std.proofs.Common.{◌≡◌, refl, sym, ◌∙◌, ap, subst, rules, arith, ℕ, zero, suc, ◌+◌, ◌≤◌, List, [], ◌∷◌, ◌++◌, Option, Some, None, length, length-append, map}
use Rattle.std.specs.Prelude.{if◌then◌else◌, nat_lt, slice_get}
use Rattle.std.specs.List.{All, flat_map}
use Rattle.sp_text.specs.declared.fault.Quantity.TheVariants as quantity
use Rattle.sp_text.specs.declared.fault.Span.{Span}
use Rattle.sp_text.specs.declared.limits.TheConstants.{MOST_FUNCTION_NODES}
use Rattle.sp_text.specs.Firsts.{behind}
use Rattle.sp_text.specs.Violations.{exceeds}
use Rattle.sp_tree.specs.declared.interface.Equation.{Equation}
use Rattle.sp_tree.specs.declared.module.Body.{Body}
use Rattle.sp_tree.specs.declared.module.Body.TheVariants as body
use Rattle.sp_tree.specs.declared.module.FunDecl.{FunDecl}
use Rattle.sp_tree.specs.declared.names.Ident.{Ident}
use Rattle.sp_core.specs.declared.function.Function.{Function}
use Rattle.sp_core.specs.declared.function.Kind.{Kind}
use Rattle.sp_core.specs.declared.function.Kind.TheVariants as kind
use Rattle.sp_core.specs.Machine.{types_of}
use Rattle.sp_core.specs.Measures.{IsWithinDepth, LooksAt, Nothing}
use Rattle.sp_core.specs.Tree.{tree}
use Rattle.sp_core.specs.Typing.{Signature}
use Rattle.sp_core.specs.WellFormed.{IsEarlier, IsFunction, IsLevel}
use Rattle.sp_plain.specs.Text.{text}
use Rattle.sp_naming.specs.Numbers.{after}
use Rattle.sp_scopes.specs.declared.heads.Head.{Head}
use Rattle.sp_judge.specs.Visible.{Visible, function_at}
use Rattle.sp_typed.specs.Fits.{AreTypes, IsAsked, IsFunctionHead, any_type, kind_sort, types}
use Rattle.sp_typed.proofs.Fitting.{append_right, behind_inner, behind_own}
use Rattle.sp_functions.specs.Depths.{derived_depth}
use Rattle.sp_functions.specs.Equations.{equation_broken, equation_name, equations_broken}
use Rattle.sp_functions.specs.Exceptions.{exceptions_broken}
use Rattle.sp_functions.specs.Judged.{derivation_broken}
use Rattle.sp_functions.specs.Laws.{IsSeenBy}
use Rattle.sp_naming.specs.Names.{repeated_names}
use Rattle.sp_specification.specs.Bodies.{headed_broken, headed_depth, next_head, next_number}
use Rattle.sp_specification.specs.Ends.{equation_of, level_broken, level_tree}
use Rattle.sp_specification.specs.Functions.{IsFunctionOf, IsKindOf, depth_broken, depth_of, function_broken, head_type, kind_broken, nodes_of}
use Rattle.sp_specification.specs.Meaning.{AreFunctions, IsLevelled}
use Rattle.sp_specification.specs.Numbers.{IsBodyNumbered, IsEquationNumbered, IsFunctionNumbered}
use Rattle.sp_well_formed.proofs.Depths.{AreDepths, derived_within, flat, next_depth, no_depths}
use Rattle.sp_well_formed.proofs.Earlier.{reads_earlier}
use Rattle.sp_well_formed.proofs.Functions.{formal_types, function_fine, level_fine}
use Rattle.sp_well_formed.proofs.Items.{makes_nothing, no_item, of_all, right_nothing, same_item}
use Rattle.sp_well_formed.proofs.Lists.{FunctionsFine, LevelsFine, equation_head, found_equation}

-- What is said of a function that has its level

-- its head and its equation are there
pub record IsPlacedFunction (s t : Visible) (o : Option Head) (e : Option Equation) (x : FunDecl) (f : Function) : Type 0 where
  pub head : Head
  pub equation : Equation
  pub has_head : o ≡ Some head
  pub has_equation : e ≡ Some equation
  pub is : IsFunctionOf s head x (level_tree t equation) f

pub levelled : (s t : Visible) (o : Option Head) (e : Option Equation) (x : FunDecl) (f : Function) → IsLevelled s t o e x f → IsPlacedFunction s t o e x f
levelled s t None e x f h = absurd h
levelled s t (Some y) None x f h = absurd h
levelled s t (Some y) (Some q) x f h = record { head = y; equation = q; has_head = refl; has_equation = refl; is = h }

kind_sorted : (s : Visible) (h : Head) (o : Option Ident) (b : Body) (k : Kind) → IsKindOf s h o b k → kind_sort k ≡ h.sort
kind_sorted s h o (body.Initially e) (kind.Primitive t d) i = sym i.0
kind_sorted s h o (body.Derivation e) (kind.Derived t d) i = sym i.0
kind_sorted s h o (body.Effects ws) (kind.Operation es) i = sym i.0
kind_sorted s h o (body.Effects ws) (kind.Both t es) i = sym i.0
kind_sorted s h o (body.Initially e) (kind.Derived t d) i = absurd i
kind_sorted s h o (body.Initially e) (kind.Operation es) i = absurd i
kind_sorted s h o (body.Initially e) (kind.Both t es) i = absurd i
kind_sorted s h o (body.Derivation e) (kind.Primitive t d) i = absurd i
kind_sorted s h o (body.Derivation e) (kind.Operation es) i = absurd i
kind_sorted s h o (body.Derivation e) (kind.Both t es) i = absurd i
kind_sorted s h o (body.Effects ws) (kind.Primitive t d) i = absurd i
kind_sorted s h o (body.Effects ws) (kind.Derived t d) i = absurd i

-- it has its head
pub function_headed : (s t : Visible) (o : Option Head) (e : Option Equation) (x : FunDecl) (f : Function) (p : IsPlacedFunction s t o e x f) → IsFunctionHead p.head f
function_headed s t o e x f p = record {
  formals = ap types_of p.is.formals ∙ formal_types p.head.formals;
  sort = kind_sorted s p.head x.head.result x.body f.kind p.is.kind;
}

-- the functions of texts, by their places
module _ (sees : ℕ → Visible) (t : Visible) (qs : List Equation) where
  pub functions_length : (g : ℕ) (xs : List (ℕ × FunDecl)) (fs : List Function) → AreFunctions sees t qs g xs fs → length fs ≡ length xs
  functions_length g [] [] h = refl
  functions_length g [] (f ∷ fs) h = absurd h
  functions_length g (x ∷ xs) [] h = absurd h
  functions_length g (x ∷ xs) (f ∷ fs) h = ap suc (functions_length (suc g) xs fs h.1)

  pub function_placed : (g : ℕ) (xs : List (ℕ × FunDecl)) (fs : List Function) → AreFunctions sees t qs g xs fs → (k : ℕ) (x : ℕ × FunDecl) → slice_get xs k ≡ Some x →
      (f : Function) × (slice_get fs k ≡ Some f) × IsPlacedFunction (sees x.0) t (function_at t (g + k)) (equation_of t qs (g + k)) x.1 f
  function_placed g [] [] h k x at = no_item k x at
  function_placed g [] (f ∷ fs) h k x at = absurd h
  function_placed g (y ∷ xs) [] h k x at = absurd h
  function_placed g (y ∷ xs) (f ∷ fs) h zero x at =
      let z : g ≡ g + 0 = omega arith in
      let own = levelled (sees y.0) t (function_at t g) (equation_of t qs g) y.1 f h.0 in
      (f, refl, subst (λ n. IsPlacedFunction (sees x.0) t (function_at t n) (equation_of t qs n) x.1 f) z (subst (λ w. IsPlacedFunction (sees w.0) t (function_at t g) (equation_of t qs g) w.1 f) (same_item y x at) own))
  function_placed g (y ∷ xs) (f ∷ fs) h (suc k) x at =
      let z : suc g + k ≡ g + suc k = omega arith in
      let r = function_placed (suc g) xs fs h.1 k x at in
      (r.0, r.1, subst (λ n. IsPlacedFunction (sees x.0) t (function_at t n) (equation_of t qs n) x.1 r.0) z r.2)

-- Depths

module _ (sg : Signature) (s : Visible) (seen : IsSeenBy sg s) (h : Head) (a : AreTypes sg h.formals) (any : IsAsked sg (any_type h.sort)) where
  -- how deep the next function is
  deep_by : (before : List ℕ) → AreDepths sg.functions before → (p : Span) (o : Option Ident) (f : Function) (b : Body) (k : Kind) → slice_get sg.functions (length before) ≡ Some (record f { kind = k }) → IsBodyNumbered b →
      kind_broken s (length before) h p o b ≡ [] → IsKindOf s h o b k → (n : ℕ) → n ≤ 16 → depth_of s before h b ≤ n → IsWithinDepth sg.functions n (length before)
  deep_by before known p o f (body.Derivation e) (kind.Derived t d) at m fine i n small deep =
      let fits = subst (λ u. derivation_broken s (length before) h.formals (head_type u) (text e) ≡ []) i.0 fine in
      let reads = reads_earlier sg s seen (length before) h.formals a t (subst (λ u. IsAsked sg (any_type u)) i.0 any) (text e) m fits in
      derived_within sg.functions before known f t d at (subst (LooksAt (IsEarlier sg.functions (length before)) Nothing) (sym i.1) reads) n small
      (subst (λ z. derived_depth before z ≤ n) (sym i.1) deep)
  deep_by before known p o f (body.Initially e) (kind.Primitive t d) at m fine i n small deep = flat sg.functions n (length before) (record f { kind = kind.Primitive t d }) at tt
  deep_by before known p o f (body.Effects ws) (kind.Operation es) at m fine i n small deep = flat sg.functions n (length before) (record f { kind = kind.Operation es }) at tt
  deep_by before known p o f (body.Effects ws) (kind.Both t es) at m fine i n small deep = flat sg.functions n (length before) (record f { kind = kind.Both t es }) at tt
  deep_by before known p o f (body.Initially e) (kind.Derived t d) at m fine i n small deep = absurd i
  deep_by before known p o f (body.Initially e) (kind.Operation es) at m fine i n small deep = absurd i
  deep_by before known p o f (body.Initially e) (kind.Both t es) at m fine i n small deep = absurd i
  deep_by before known p o f (body.Derivation e) (kind.Primitive t d) at m fine i n small deep = absurd i
  deep_by before known p o f (body.Derivation e) (kind.Operation es) at m fine i n small deep = absurd i
  deep_by before known p o f (body.Derivation e) (kind.Both t es) at m fine i n small deep = absurd i
  deep_by before known p o f (body.Effects ws) (kind.Primitive t d) at m fine i n small deep = absurd i
  deep_by before known p o f (body.Effects ws) (kind.Derived t d) at m fine i n small deep = absurd i

  pub next_within : (before : List ℕ) → AreDepths sg.functions before → (x : FunDecl) (f : Function) → slice_get sg.functions (length before) ≡ Some f → IsFunctionNumbered x →
      function_broken s (length before) before h x ≡ [] → IsKindOf s h x.head.result x.body f.kind → (n : ℕ) → n ≤ 16 → depth_of s before h x.body ≤ n → IsWithinDepth sg.functions n (length before)
  next_within before known x f at m fine i n small deep =
      let front = exceptions_broken s h.formals x.exceptions in
      let own = kind_broken s (length before) h x.head.name.span x.head.result x.body in
      let depths = depth_broken x.head.name.span (depth_of s before h x.body) in
      deep_by before known x.head.name.span x.head.result f x.body f.kind at m.body (behind_inner own depths (append_right front (behind own depths) fine)) i n small deep

  pub depth_low : (before : List ℕ) (x : FunDecl) → function_broken s (length before) before h x ≡ [] → depth_of s before h x.body ≤ 16
  depth_low before x fine =
      let front = exceptions_broken s h.formals x.exceptions in
      let own = kind_broken s (length before) h x.head.name.span x.head.result x.body in
      let depths = depth_broken x.head.name.span (depth_of s before h x.body) in
      low (depth_of s before h x.body) x.head.name.span (behind_own own depths (append_right front (behind own depths) fine))
    where
      low : (n : ℕ) (p : Span) → depth_broken p n ≡ [] → n ≤ 16
      low n p h = grind (arith, rules)

-- a function with too many nodes or without a level breaks a limit or a rule
sized : (s t : Visible) (o : Option Head) (e : Option Equation) (x : FunDecl) (h : Head) (q : Equation) → o ≡ Some h → e ≡ Some q → level_broken s t o x e ≡ [] →
    (if nat_lt MOST_FUNCTION_NODES (nodes_of s h x (level_tree t q)) then exceeds x.head.name.span quantity.FunctionNodes else []) ≡ []
sized s t o e x h q i j fine = sym (λ k. level_broken s t (i k) x (j k)) ∙ fine

-- All functions

module _ (sg : Signature) (sees : ℕ → Visible) (t : Visible) (seen : (k : ℕ) → IsSeenBy sg (sees k)) (whole : IsSeenBy sg t)
    (heads : (k g : ℕ) → function_at (sees k) g ≡ function_at t g)
    (types_there : (g : ℕ) (h : Head) → function_at t g ≡ Some h → AreTypes sg h.formals × IsAsked sg (any_type h.sort) × (length h.formals ≤ 8))
    (qs : List Equation) (equations : equations_broken t qs ≡ []) (numbers : All IsEquationNumbered qs) where
  -- the next function
  module _ (before : List ℕ) (x : ℕ × FunDecl) (f : Function) (p : IsPlacedFunction (sees x.0) t (function_at t (length before)) (equation_of t qs (length before)) x.1 f)
      (fine : headed_broken (sees x.0) before (next_head (sees x.0) before) x.1 ≡ []) (level : level_broken (sees x.0) t (function_at (sees x.0) (length before)) x.1 (equation_of t qs (length before)) ≡ [])
      (known : AreDepths sg.functions before) (at : slice_get sg.functions (length before) ≡ Some f) (m : IsFunctionNumbered x.1) (small : length before ≤ 512) where
    number : next_number before ≡ length before
    number = omega (arith, small)

    headed : next_head (sees x.0) before ≡ Some p.head
    headed = ap (function_at (sees x.0)) number ∙ heads x.0 (length before) ∙ p.has_head

    broken : function_broken (sees x.0) (length before) before p.head x.1 ≡ []
    broken = subst (λ n. function_broken (sees x.0) n before p.head x.1 ≡ []) number (subst (λ o. headed_broken (sees x.0) before o x.1 ≡ []) headed fine)

    typed : AreTypes sg p.head.formals
    typed = (types_there (length before) p.head p.has_head).0

    asked : IsAsked sg (any_type p.head.sort)
    asked = (types_there (length before) p.head p.has_head).1

    few : length p.head.formals ≤ 8
    few = (types_there (length before) p.head p.has_head).2

    within : (n : ℕ) → n ≤ 16 → depth_of (sees x.0) before p.head x.1.body ≤ n → IsWithinDepth sg.functions n (length before)
    within n low le = next_within sg (sees x.0) (seen x.0) p.head typed asked before known x.1 f at m broken p.is.kind n low le

    leveled : IsLevel sg (types p.head.formals) (tree f.level)
    leveled =
        let q = p.equation in
        let r = found_equation t (length before) qs q p.has_equation in
        let whole' = right_nothing (repeated_names [] (map equation_name qs)) (flat_map (equation_broken t) qs) equations in
        level_fine sg t whole q p.head (equation_head t (length before) q r.2 ∙ p.has_head) typed (makes_nothing (equation_broken t) qs whole' r.0 q r.1) (of_all IsEquationNumbered qs numbers r.0 q r.1) f.level p.is.level

    one : IsFunction sg (length before) f
    one =
        let deep = within 16 (omega arith) (depth_low sg (sees x.0) (seen x.0) p.head typed asked before x.1 broken) in
        let size = sized (sees x.0) t (function_at (sees x.0) (length before)) (equation_of t qs (length before)) x.1 p.head p.equation (heads x.0 (length before) ∙ p.has_head) p.has_equation level in
        function_fine sg (sees x.0) (seen x.0) p.head typed asked few (length before) before x.1 (level_tree t p.equation) f m broken deep size p.is leveled

    known_next : AreDepths sg.functions (before ++ headed_depth (sees x.0) before (next_head (sees x.0) before) x.1 ∷ [])
    known_next =
        let d = headed_depth (sees x.0) before (next_head (sees x.0) before) x.1 in
        let same : d ≡ depth_of (sees x.0) before p.head x.1.body = ap (λ o. headed_depth (sees x.0) before o x.1) headed in
        next_depth sg.functions before known d (λ n low le. within n low (omega (arith, same, le)))

  -- and those after it
  walk : (before : List ℕ) (xs : List (ℕ × FunDecl)) (fs : List Function) → AreFunctions sees t qs (length before) xs fs → FunctionsFine sees before xs → LevelsFine sees t qs (length before) xs →
      AreDepths sg.functions before → ((k : ℕ) → slice_get sg.functions (length before + k) ≡ slice_get fs k) → ((k : ℕ) (x : ℕ × FunDecl) → slice_get xs k ≡ Some x → IsFunctionNumbered x.1) → length before + length xs ≤ 512 →
      (k : ℕ) (f : Function) → slice_get fs k ≡ Some f → IsFunction sg (length before + k) f
  walk before [] [] h fine level known places m room k f e = no_item k f e
  walk before [] (y ∷ fs) h fine level known places m room k f e = absurd h
  walk before (x ∷ xs) [] h fine level known places m room k f e = absurd h
  walk before (x ∷ xs) (y ∷ fs) h fine level known places m room zero f e =
      let z : length before + 0 ≡ length before = omega arith in
      let at = ap (slice_get sg.functions) (sym z) ∙ places 0 in
      let p = levelled (sees x.0) t (function_at t (length before)) (equation_of t qs (length before)) x.1 y h.0 in
      let it = one before x y p fine.0 level.0 known at (m 0 x refl) (omega (arith, room)) in
      subst (λ n. IsFunction sg n f) (sym z) (subst (IsFunction sg (length before)) (same_item y f e) it)
  walk before (x ∷ xs) (y ∷ fs) h fine level known places m room (suc k) f e =
      let z : length before + 0 ≡ length before = omega arith in
      let at = ap (slice_get sg.functions) (sym z) ∙ places 0 in
      let p = levelled (sees x.0) t (function_at t (length before)) (equation_of t qs (length before)) x.1 y h.0 in
      let depths = known_next before x y p fine.0 level.0 known at (m 0 x refl) (omega (arith, room)) in
      let d = headed_depth (sees x.0) before (next_head (sees x.0) before) x.1 in
      let next = before ++ d ∷ [] in
      let long : suc (length before) ≡ length next = omega (arith, length-append before (d ∷ [])) in
      let number : after (length before) ≡ length next = omega (arith, long, room) in
      let count : length next + k ≡ length before + suc k = omega (arith, long) in
      subst (λ n. IsFunction sg n f) count
      (walk next xs fs (subst (λ n. AreFunctions sees t qs n xs fs) long h.1) fine.1 (subst (λ n. LevelsFine sees t qs n xs) number level.1) depths
      (λ j. let w : length next + j ≡ length before + suc j = omega (arith, long) in ap (slice_get sg.functions) w ∙ places (suc j))
      (λ j w i. m (suc j) w i) (omega (arith, long, room)) k f e)

  -- all of them
  pub all_fine : (xs : List (ℕ × FunDecl)) → AreFunctions sees t qs 0 xs sg.functions → FunctionsFine sees [] xs → LevelsFine sees t qs 0 xs →
      ((k : ℕ) (x : ℕ × FunDecl) → slice_get xs k ≡ Some x → IsFunctionNumbered x.1) → length xs ≤ 512 → (k : ℕ) (f : Function) → slice_get sg.functions k ≡ Some f → IsFunction sg k f
  all_fine xs h fine level m room k f e =
      let z : 0 + k ≡ k = omega arith in
      let long : 0 + length xs ≤ 512 = omega (arith, room) in
      subst (λ n. IsFunction sg n f) z
      (walk [] xs sg.functions h fine level (no_depths sg.functions) (λ j. let w : 0 + j ≡ j = omega arith in ap (slice_get sg.functions) w) m long k f e)
