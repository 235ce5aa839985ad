-- From formulas that hold over two states to what expressions read over them.
use Rattle.std.proofs.Common.{◌≡◌, refl, sym, ◌∙◌, ap, subst, arith, ℕ, zero, suc, ◌+◌, ◌-◌, ◌≤◌, Bool, true, false, not, List, [], ◌∷◌, ◌++◌, length, map, take, drop, take-append-drop, length-take-le, length-append, append_assoc, get_or, Option, Some, None}
use Rattle.std.specs.Prelude.{IsTrue, if◌then◌else◌, slice_get}
use Rattle.std.specs.List.{All, Contains, list_all, range_with_len}
use Rattle.std.proofs.Math.Seq.{get_or-append_right}
use Rattle.std.proofs.Math.ListN.{get_or-append}
use Rattle.std.proofs.lemmas.List.{take-append-le}
use Rattle.std.proofs.lemmas.List.Elements.{All-append, All-cons, All-contains, All-head, All-nil, All-tail, All-weaker}
use Rattle.sp_values.specs.declared.value.Value.{Value}
use Rattle.sp_values.specs.declared.value.Value.TheVariants as value
use Rattle.sp_values.specs.declared.value.Ty.{Ty}
use Rattle.sp_values.specs.declared.value.Ty.TheVariants as ty
use Rattle.sp_values.specs.declared.value.Op.TheVariants as op
use Rattle.sp_values.specs.Domains.{Sizes, are_proper, are_values, has_unknown, is_proper, proper_values}
use Rattle.sp_values.specs.Identity.{same_value}
use Rattle.sp_core.specs.declared.function.Formal.{Formal}
use Rattle.sp_core.specs.declared.function.Function.{Function}
use Rattle.sp_core.specs.Instances.{Filling, IsAdmissible, IsInstance, machine_of}
use Rattle.sp_core.specs.Machine.{AreBindings, Machine, level_by, level_of, types_of}
use Rattle.sp_core.specs.Measures.{Nothing}
use Rattle.sp_core.specs.Parts.{Parts, signature}
use Rattle.sp_core.specs.Tree.{Tree, Trees, Const, Var, Not, Two, If, Param, Look, Every, New, none, more, tree}
use Rattle.sp_core.specs.Typing.{HasType}
use Rattle.sp_core.specs.Values.{Reads, Store, World, is_true, level_number, look, nothing, nth, two, value_of, values_of}
use Rattle.sp_core.specs.WellFormed.{IsLevel, IsWellFormed}
use Rattle.sp_core.proofs.Agree.{value_agrees}
use Rattle.sp_core.proofs.Bindings.{are_values-append, bindings_typed, length_values}
use Rattle.sp_core.proofs.Types.{and_true}
use Rattle.sp_flow.specs.Flows.{IsUnder, ReadUnder, ReadsUnder}
use Rattle.sp_formulas.specs.Assertions.{instances, is_unknown}
use Rattle.sp_formulas.specs.Formulas.{About, Formula, Spot, bound_from, formula, known_from, level_at, level_term, reference_formula, reference_formulas}
use Rattle.sp_core.proofs.Elements.{Contains-map}
use Rattle.sp_claims.specs.Models.{HoldsOver}
use Rattle.sp_hold.specs.Holding.{EachReference, IsTrueOver, claim}
use Rattle.sp_formulas.specs.Moves.{put, settle}
use Rattle.sp_formulas.specs.References.{Reference, references, references_in}
use Rattle.sp_hold.proofs.Scopes.{AreScoped, FitAll, Fits, IsScoped}
use Rattle.sp_hold.proofs.Asserted.{asserted}
use Rattle.sp_hold.proofs.Bridge.{below, belows, weaken}
use Rattle.sp_hold.proofs.MoveLemmas.{fits, fits_more, fits_put, value-put, value-settle}
use Rattle.sp_hold.proofs.ReferenceFits.{ReferenceFits, all_references_fit, references_fit}
use Rattle.sp_hold.proofs.Scoped.{no_quantifier, scoped}

-- Values that aren't `?`

abbrev pub IsKnown : Value → Type 0
IsKnown v = IsTrue (not (same_value v value.Unknown))

abbrev pub AreKnown : List Value → Type 0
AreKnown [] = Unit {0}
AreKnown (v ∷ vs) = IsKnown v × AreKnown vs

proper_known : (sz : Sizes) (t : Ty) (v : Value) → is_proper sz t v ≡ true → IsKnown v
proper_known sz t (value.Truth b) e = refl
proper_known sz t (value.Int z) e = refl
proper_known sz t (value.Level l) e = refl
proper_known sz t (value.Member k m) e = refl
proper_known sz ty.Boolean value.Unknown e = cc
proper_known sz ty.Integer value.Unknown e = cc
proper_known sz ty.Level value.Unknown e = cc
proper_known sz (ty.Member k) value.Unknown e = cc

pub args_known : (sz : Sizes) (ts : List Ty) (vs : List Value) → are_proper sz ts vs ≡ true → AreKnown vs
args_known sz [] [] h = tt
args_known sz [] (v ∷ vs) h = cc
args_known sz (t ∷ ts) [] h = cc
args_known sz (t ∷ ts) (v ∷ vs) h = let p = and_true (is_proper sz t v) (are_proper sz ts vs) h in (proper_known sz t v p.0, args_known sz ts vs p.1)

all_made : (f : ℕ → Value) → ((k : ℕ) → IsKnown (f k)) → (ks : List ℕ) → All IsKnown (map f ks)
all_made f h [] = All-nil IsKnown
all_made f h (k ∷ ks) = All-cons IsKnown (f k) (map f ks) (h k) (all_made f h ks)

all_known : (sz : Sizes) (t : Ty) → All IsKnown (proper_values sz t)
all_known sz ty.Boolean = All-cons IsKnown (value.Truth false) (value.Truth true ∷ []) refl (All-cons IsKnown (value.Truth true) [] refl (All-nil IsKnown))
all_known sz ty.Integer = All-nil IsKnown
all_known sz ty.Level = all_made value.Level (λ k. refl) (range_with_len 0 sz.levels)
all_known sz (ty.Member j) = all_made (value.Member j) (λ k. refl) (range_with_len 0 (sz.members j))

pub bindings_known : (w : World) (ts : List Ty) (cs : List Value) → AreBindings w ts cs → AreKnown cs
bindings_known w [] [] h = tt
bindings_known w [] (c ∷ cs) h = absurd h
bindings_known w (t ∷ ts) [] h = absurd h
bindings_known w (t ∷ ts) (c ∷ cs) h = (All-contains IsKnown (proper_values w.sizes t) c (all_known w.sizes t) h.0, bindings_known w ts cs h.1)

pub known-append : (x y : List Value) → AreKnown x → AreKnown y → AreKnown (x ++ y)
known-append [] y h k = k
known-append (v ∷ x) y h k = (h.0, known-append x y h.1 k)

drop-append_front : (k : ℕ) (x y : List Value) → k ≤ length x → drop k (x ++ y) ≡ drop k x ++ y
drop-append_front zero x y l = refl
drop-append_front (suc k) [] y l = absurd (omega (arith, l))
drop-append_front (suc k) (v ∷ x) y l = drop-append_front k x y (omega (arith, l))

drop_values : (sz : Sizes) (k : ℕ) (ts : List Ty) (x : List Value) → are_values sz ts x ≡ true → are_values sz (drop k ts) (drop k x) ≡ true
drop_values sz zero ts x h = h
drop_values sz (suc k) [] [] h = refl
drop_values sz (suc k) [] (v ∷ x) h = cc
drop_values sz (suc k) (t ∷ ts) [] h = cc
drop_values sz (suc k) (t ∷ ts) (v ∷ x) h = drop_values sz k ts x (and_true _ (are_values sz ts x) h).1

pub types-append : (fs gs : List Formal) → types_of (fs ++ gs) ≡ types_of fs ++ types_of gs
types-append [] gs = refl
types-append (f ∷ fs) gs = ap (λ ts. f.ty ∷ ts) (types-append fs gs)

types-bound : (k : ℕ) (ts : List Ty) → types_of (bound_from k ts) ≡ ts
types-bound k [] = refl
types-bound k (t ∷ ts) = ap (λ us. t ∷ us) (types-bound (k + 1) ts)

pub length-types : (fs : List Formal) → length (types_of fs) ≡ length fs
length-types [] = refl
length-types (f ∷ fs) = ap suc (length-types fs)

module _ (w : World) (r new : Reads) where
  mutual
    -- more values after its variables change nothing
    pub weaken_fit : (e : Tree) (x cs : List Value) → Fits (length x) e → value_of w r new (x ++ cs) e ≡ value_of w r new x e
    weaken_fit (Const v) x cs h = refl
    weaken_fit (Var k) x cs h = get_or-append x cs value.Unknown k h
    weaken_fit (Not a) x cs h = ap (λ v. value.Truth (not (is_true v))) (weaken_fit a x cs h)
    weaken_fit (Two o a b) x cs h = λ i. two w o (weaken_fit a x cs h.0 i) (weaken_fit b x cs h.1 i)
    weaken_fit (If c a b) x cs h = λ i. if is_true (weaken_fit c x cs h.0 i) then weaken_fit a x cs h.1 i else weaken_fit b x cs h.2 i
    weaken_fit (Param p ds) x cs h = ap (w.param p) (weaken_fits ds x cs h)
    weaken_fit (Look g ds) x cs h = ap (r g) (weaken_fits ds x cs h)
    weaken_fit (Every k t b) x cs h = ap (λ y. value.Truth (list_all (λ c. is_true (value_of w r new (y ++ c ∷ []) b)) (proper_values w.sizes t))) (take-append-le k x cs h.0)
    weaken_fit (New g ds) x cs h = ap (new g) (weaken_fits ds x cs h)

    pub weaken_fits : (ds : Trees) (x cs : List Value) → FitAll (length x) ds → values_of w r new (x ++ cs) ds ≡ values_of w r new x ds
    weaken_fits none x cs h = refl
    weaken_fits (more d ds) x cs h = λ i. weaken_fit d x cs h.0 i ∷ weaken_fits ds x cs h.1 i

module _ (p : Parts) (fill : Filling) (wf : IsWellFormed p) (inst : IsInstance p fill) (admits : IsAdmissible p fill) (s u : Store) where
  abbrev m : Machine
  m = machine_of p fill

  abbrev r : Reads
  r = look m.world p.functions s

  abbrev n : Reads
  n = look m.world p.functions u

  abbrev Held : List Value → Tree → Type 0
  Held x e = IsTrueOver m.world (look m.world p.functions s) (look m.world p.functions u) x e

  -- Levels

  level_by_value : (o : Option Function) → ((f : Function) → o ≡ Some f → IsLevel (signature p) (types_of f.formals) (tree f.level)) → (ds : Trees) (x : List Value) → level_number (value_of m.world r n x (put ds (level_term o))) ≡ level_by m.world o (values_of m.world r n x ds)
  level_by_value None h ds x = refl
  level_by_value (Some f) h ds x =
      let own = h f refl in
      ap level_number (value-put m.world r n x ds (tree f.level) (no_quantifier (tree f.level) own.no_quantifier) ∙ value_agrees m.world r n nothing nothing Nothing (λ g v no. absurd no) (tree f.level) (values_of m.world r n x ds) own.reads_nothing)

  -- L(g(ds)) is the level of g at the values of ds
  pub level_value : (g : ℕ) (ds : Trees) (x : List Value) → level_number (value_of m.world r n x (level_at p g ds)) ≡ level_of m g (values_of m.world r n x ds)
  level_value g ds x = level_by_value (slice_get p.functions g) (λ f e. (wf.functions g f e).level) ds x

  level_fits_by : (o : Option Function) → ((f : Function) → o ≡ Some f → IsLevel (signature p) (types_of f.formals) (tree f.level)) → (k : ℕ) (ds : Trees) → FitAll k ds → Fits k (put ds (level_term o))
  level_fits_by None h k ds fit = tt
  level_fits_by (Some f) h k ds fit = fits_put ds (tree f.level) k fit (no_quantifier (tree f.level) (h f refl).no_quantifier)

  pub level_fits : (g k : ℕ) (ds : Trees) → FitAll k ds → Fits k (level_at p g ds)
  level_fits g k ds fit = level_fits_by (slice_get p.functions g) (λ f e. (wf.functions g f e).level) k ds fit

  -- the function's own level, under bound variables too
  pub own_level : (g : ℕ) (f : Function) → slice_get p.functions g ≡ Some f → (v cs : List Value) → are_values m.world.sizes (types_of f.formals) v ≡ true → level_number (value_of m.world r n (v ++ cs) (tree f.level)) ≡ level_of m g v
  own_level g f there v cs typed =
      let own = (wf.functions g f there).level in
      let long = length_values m.world.sizes (types_of f.formals) v typed in
      let here : IsScoped (length v) (tree f.level) = subst (λ k. IsScoped k (tree f.level)) (sym long) (scoped (signature p) (types_of f.formals) (tree f.level) ty.Level own.expression.typed) in
      ap level_number (weaken m.world r n (tree f.level) v cs here ∙ value_agrees m.world r n nothing nothing Nothing (λ g v no. absurd no) (tree f.level) v own.reads_nothing)
      ∙ ap (λ o. level_by m.world o v) (sym there)

  -- Hypotheses

  pub settled : (x : List Value) (k : ℕ) → length x ≡ k → (c : Tree) → Fits k c → value_of m.world r n x (settle k c) ≡ value_of m.world r n x c
  settled x k e c = subst (λ k. Fits k c → value_of m.world r n x (settle k c) ≡ value_of m.world r n x c) e (value-settle m.world r n c x)

  pub held_settled : (x : List Value) (k : ℕ) → length x ≡ k → (cs : List Tree) → All (Fits k) cs → All (IsTrueOver m.world r n x) cs → All (IsTrueOver m.world r n x) (map (settle k) cs)
  held_settled x k e [] f h = All-nil (IsTrueOver m.world r n x)
  held_settled x k e (c ∷ cs) f h =
      All-cons (IsTrueOver m.world r n x) (settle k c) (map (settle k) cs) (ap is_true (settled x k e c (All-head (Fits k) c cs f)) ∙ All-head (IsTrueOver m.world r n x) c cs h)
      (held_settled x k e cs (All-tail (Fits k) c cs f) (All-tail (IsTrueOver m.world r n x) c cs h))

  known_held : (ts : List Ty) (front x : List Value) → are_values m.world.sizes ts x ≡ true → AreKnown x → All (IsTrueOver m.world r n (front ++ x)) (known_from (length front) ts)
  known_held [] front x a h = All-nil (IsTrueOver m.world r n (front ++ x))
  known_held (t ∷ ts) front [] a h = cc
  known_held (t ∷ ts) front (v ∷ x) a h =
      let z = front ++ v ∷ x in
      let none_left : length front - length front ≡ 0 = omega arith in
      let e : nth z (length front) ≡ v = get_or-append_right front (v ∷ x) (length front) value.Unknown (omega arith) ∙ ap (λ n. get_or (v ∷ x) n value.Unknown) none_left in
      let k : length (front ++ v ∷ []) ≡ length front + 1 = length-append front (v ∷ []) in
      let q : front ++ v ∷ [] ++ x ≡ z = append_assoc front (v ∷ []) x in
      first (has_unknown t) z (length front) (subst IsKnown (sym e) h.0)
      (subst (λ j. All (IsTrueOver m.world r n z) (known_from j ts)) k (subst (λ y. All (IsTrueOver m.world r n y) (known_from (length (front ++ v ∷ [])) ts)) q (known_held ts (front ++ v ∷ []) x (and_true _ (are_values m.world.sizes ts x) a).1 h.1)))
    where
      first : (b : Bool) (z : List Value) (k : ℕ) → IsKnown (nth z k) → All (IsTrueOver m.world r n z) (known_from (k + 1) ts) → All (IsTrueOver m.world r n z) (if b then Not (is_unknown k) ∷ known_from (k + 1) ts else known_from (k + 1) ts)
      first true z k h rest = All-cons (IsTrueOver m.world r n z) (Not (is_unknown k)) (known_from (k + 1) ts) h rest
      first false z k h rest = rest

  pub still_held : (x cs : List Value) (hs : List Tree) → All (Fits (length x)) hs → All (IsTrueOver m.world r n x) hs → All (IsTrueOver m.world r n (x ++ cs)) hs
  still_held x cs [] f h = All-nil (IsTrueOver m.world r n (x ++ cs))
  still_held x cs (c ∷ hs) f h =
      All-cons (IsTrueOver m.world r n (x ++ cs)) c hs (ap is_true (weaken_fit m.world r n c x cs (All-head (Fits (length x)) c hs f)) ∙ All-head (IsTrueOver m.world r n x) c hs h)
      (still_held x cs hs (All-tail (Fits (length x)) c hs f) (All-tail (IsTrueOver m.world r n x) c hs h))

  -- Formulas

  -- a formula that holds, at values of which those from number k on aren't `?`
  pub from_formula : (o : About) (k : ℕ) (ts : List Ty) (hyps : List Tree) (goal : Tree) → HoldsOver m s u (claim (formula p o k ts hyps goal))
      → (x : List Value) → are_values m.world.sizes (types_of o.formals ++ ts) x ≡ true → k ≤ length x → AreKnown (drop k x) → All (Fits (length x)) hyps → Fits (length x) goal → All (IsTrueOver m.world r n x) hyps → IsTrueOver m.world r n x goal
  from_formula o k ts hyps goal holds x typed le known fh fg held =
      let fs = o.formals in
      let vs = types_of fs ++ ts in
      let num = length vs in
      let long : length x ≡ num = length_values m.world.sizes vs x typed in
      let vars : types_of (fs ++ bound_from (length fs) ts) ≡ vs = types-append fs (bound_from (length fs) ts) ∙ ap (λ us. types_of fs ++ us) (types-bound (length fs) ts) in
      let all_typed : are_values m.world.sizes (types_of (fs ++ bound_from (length fs) ts)) x ≡ true = subst (λ us. are_values m.world.sizes us x ≡ true) (sym vars) typed in
      let front : length (take k x) ≡ k = length-take-le k x le in
      let whole : take k x ++ drop k x ≡ x = take-append-drop k x in
      let proper : All (IsTrueOver m.world r n x) (known_from k (drop k vs)) = subst (λ j. All (IsTrueOver m.world r n x) (known_from j (drop k vs))) front
      (subst (λ y. All (IsTrueOver m.world r n y) (known_from (length (take k x)) (drop k vs))) whole (known_held (drop k vs) (take k x) (drop k x) (drop_values m.world.sizes k vs x typed) known)) in
      sym (ap is_true (settled x num long goal (subst (λ j. Fits j goal) long fg)))
      ∙ holds x all_typed
      (All-append (IsTrueOver m.world r n x) (known_from k (drop k vs)) (map (settle num) hyps ++ instances p.assertions vs) proper
      (All-append (IsTrueOver m.world r n x) (map (settle num) hyps) (instances p.assertions vs) (held_settled x num long hyps (subst (λ j. All (Fits j) hyps) long fh) held) (asserted p fill wf admits r n vs x typed)))

  -- the reference formulas of an expression: each reference whose path is TRUE is at or below the level that bounds it
  pub each_reference : (o : Spot) (hyps : List Tree) (rs : List Reference) → ((q : Formula) → Contains (reference_formulas p o hyps rs) q → HoldsOver m s u (claim q))
      → (x : List Value) → are_values m.world.sizes (types_of o.about.formals ++ o.bound) x ≡ true → o.known ≤ length x → AreKnown (drop o.known x)
      → All (Fits (length x)) hyps → Fits (length x) o.upper → All (IsTrueOver m.world r n x) hyps → All (ReferenceFits (length x)) rs
      → EachReference m.world r n (IsUnder m (level_number (value_of m.world r n x o.upper))) x rs
  each_reference o hyps rs holds x typed le known fh fu held fit = λ q c cs bound path.
      let vs = types_of o.about.formals in
      let z = x ++ cs in
      let lc : length cs ≡ length q.vars = length_values m.world.sizes q.vars cs (bindings_typed m.world q.vars cs bound) in
      let lz : length z ≡ length x + length q.vars = omega (arith, length-append x cs, lc) in
      let more_le : length x ≤ length z = omega (arith, lz) in
      let all_typed : are_values m.world.sizes (vs ++ (o.bound ++ q.vars)) z ≡ true =
      subst (λ us. are_values m.world.sizes us z ≡ true) (append_assoc vs o.bound q.vars) (are_values-append m.world.sizes (vs ++ o.bound) q.vars x cs typed (bindings_typed m.world q.vars cs bound)) in
      let all_known : AreKnown (drop o.known z) = subst AreKnown (sym (drop-append_front o.known x cs le)) (known-append (drop o.known x) cs known (bindings_known m.world q.vars cs bound)) in
      let qf = All-contains (ReferenceFits (length x)) rs q fit c in
      let args : FitAll (length z) q.args = subst (λ j. FitAll j q.args) (sym lz) qf.args in
      let paths : All (Fits (length z)) q.path = subst (λ j. All (Fits j) q.path) (sym lz) qf.path in
      let goal = from_formula o.about o.known (o.bound ++ q.vars) (hyps ++ q.path) (Two op.LevelLe (level_at p q.fun q.args) o.upper)
      (holds (reference_formula p o hyps q) (Contains-map (reference_formula p o hyps) rs q c)) z all_typed (omega (arith, le, more_le)) all_known
      (All-append (Fits (length z)) hyps q.path (All-weaker (Fits (length x)) (Fits (length z)) (λ c h. fits_more c (length x) (length z) more_le h) hyps fh) paths)
      (level_fits q.fun (length z) q.args args, fits_more o.upper (length x) (length z) more_le fu)
      (All-append (IsTrueOver m.world r n z) hyps q.path (still_held x cs hyps fh held) path) in
      subst (λ k. IsTrue (m.world.below (level_of m q.fun (values_of m.world r n z q.args)) k)) (ap level_number (weaken_fit m.world r n o.upper x cs fu))
      (subst (λ k. IsTrue (m.world.below k (level_number (value_of m.world r n z o.upper)))) (level_value q.fun q.args z) goal)

  -- so the expression reads at or below that level
  pub spot_reads : (o : Spot) (hyps : List Tree) (e : Tree) → ((q : Formula) → Contains (reference_formulas p o hyps (references e)) q → HoldsOver m s u (claim q))
      → (x : List Value) → are_values m.world.sizes (types_of o.about.formals ++ o.bound) x ≡ true → o.known ≤ length x → AreKnown (drop o.known x)
      → All (Fits (length x)) hyps → Fits (length x) o.upper → All (IsTrueOver m.world r n x) hyps → IsScoped (length x) e → ReadsUnder m s u x (level_number (value_of m.world r n x o.upper)) e
  spot_reads o hyps e holds x typed le known fh fu held here =
      below m.world r n (IsUnder m (level_number (value_of m.world r n x o.upper))) e x here (each_reference o hyps (references e) holds x typed le known fh fu held (references_fit e (length x) here))

  pub spot_read_all : (o : Spot) (hyps : List Tree) (ds : Trees) → ((q : Formula) → Contains (reference_formulas p o hyps (references_in ds)) q → HoldsOver m s u (claim q))
      → (x : List Value) → are_values m.world.sizes (types_of o.about.formals ++ o.bound) x ≡ true → o.known ≤ length x → AreKnown (drop o.known x)
      → All (Fits (length x)) hyps → Fits (length x) o.upper → All (IsTrueOver m.world r n x) hyps → AreScoped (length x) ds → ReadUnder m s u x (level_number (value_of m.world r n x o.upper)) ds
  spot_read_all o hyps ds holds x typed le known fh fu held here =
      belows m.world r n (IsUnder m (level_number (value_of m.world r n x o.upper))) ds x here (each_reference o hyps (references_in ds) holds x typed le known fh fu held (all_references_fit ds (length x) here))

  -- the same of a well-typed expression that stands alone, with nothing assumed before it
  pub typed_reads : (o : Spot) (e : Tree) (t : Ty) → HasType (signature p) (types_of o.about.formals ++ o.bound) e t → HasType (signature p) (types_of o.about.formals ++ o.bound) o.upper ty.Level
      → ((q : Formula) → Contains (reference_formulas p o [] (references e)) q → HoldsOver m s u (claim q))
      → (x : List Value) → are_values m.world.sizes (types_of o.about.formals ++ o.bound) x ≡ true → o.known ≤ length x → AreKnown (drop o.known x) → ReadsUnder m s u x (level_number (value_of m.world r n x o.upper)) e
  typed_reads o e t has level holds x typed le known =
      let xs = types_of o.about.formals ++ o.bound in
      let long : length x ≡ length xs = length_values m.world.sizes xs x typed in
      spot_reads o [] e holds x typed le known (All-nil (Fits (length x))) (fits o.upper (length xs) (length x) (omega (arith, long)) (scoped (signature p) xs o.upper ty.Level level)) (All-nil (IsTrueOver m.world r n x))
      (subst (λ k. IsScoped k e) (sym long) (scoped (signature p) xs e t has))
