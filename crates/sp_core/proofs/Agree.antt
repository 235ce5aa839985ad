-- An expression has one value over two readings that agree at its references.
use Rattle.std.proofs.Common.{◌≡◌, refl, sym, ◌∙◌, ap, ℕ, Bool, true, false, ◌&&◌, ◌||◌, not, List, [], ◌∷◌, ◌++◌, take}
use Rattle.std.specs.Prelude.{if◌then◌else◌}
use Rattle.std.specs.List.{list_all, All, Contains}
use Rattle.std.proofs.lemmas.List.Elements.{All-head, All-tail, All-contains_itself, All-weaker}
use Rattle.sp_values.specs.declared.value.Value.{Value}
use Rattle.sp_values.specs.declared.value.Value.TheVariants as value
use Rattle.sp_values.specs.declared.value.Op.{Op}
use Rattle.sp_values.specs.declared.value.Op.TheVariants as op
use Rattle.sp_values.specs.Domains.{proper_values}
use Rattle.sp_core.specs.Tree.{Tree, Trees, Const, Var, Not, Two, If, Param, Look, Every, New, none, more}
use Rattle.sp_core.specs.Machine.{Machine}
use Rattle.sp_core.specs.Security.{Alike, IsLow}
use Rattle.sp_core.specs.Values.{World, Reads, Store, is_true, look, two, value_of, value_over, values_of}
use Rattle.sp_core.specs.Measures.{Anything, LooksAt, LookAt, Nothing}
use Rattle.sp_core.specs.Reading.{DependOn, DependsOn, Matters}

and_same : (p : Bool) (b c : Value) → (p ≡ true → b ≡ c) → value.Truth (p && is_true b) ≡ value.Truth (p && is_true c)
and_same true b c h = ap (λ v. value.Truth (is_true v)) (h refl)
and_same false b c h = refl

or_same : (p : Bool) (b c : Value) → (p ≡ false → b ≡ c) → value.Truth (p || is_true b) ≡ value.Truth (p || is_true c)
or_same true b c h = refl
or_same false b c h = ap (λ v. value.Truth (is_true v)) (h refl)

right_same : (w : World) (o : Op) (a b c : Value) → (Matters o (is_true a) → b ≡ c) → two w o a b ≡ two w o a c
right_same w op.And a b c h = and_same (is_true a) b c h
right_same w op.Or a b c h = or_same (is_true a) b c h
right_same w op.Same a b c h = ap (two w op.Same a) (h tt)
right_same w op.LevelLe a b c h = ap (two w op.LevelLe a) (h tt)
right_same w op.IntLe a b c h = ap (two w op.IntLe a) (h tt)
right_same w op.IntLt a b c h = ap (two w op.IntLt a) (h tt)
right_same w op.Add a b c h = ap (two w op.Add a) (h tt)
right_same w op.Sub a b c h = ap (two w op.Sub a) (h tt)
right_same w op.Mul a b c h = ap (two w op.Mul a) (h tt)
right_same w op.Lub a b c h = ap (two w op.Lub a) (h tt)
right_same w op.Glb a b c h = ap (two w op.Glb a) (h tt)

if_same : (p : Bool) (a b c d : Value) → (p ≡ true → a ≡ c) → (p ≡ false → b ≡ d) → (if p then a else b) ≡ (if p then c else d)
if_same true a b c d h k = h refl
if_same false a b c d h k = k refl

all_same : (f g : Value → Bool) (cs : List Value) → All (λ c. f c ≡ g c) cs → list_all f cs ≡ list_all g cs
all_same f g [] h = refl
all_same f g (c ∷ cs) h = λ i. All-head (λ c. f c ≡ g c) c cs h i && all_same f g cs (All-tail (λ c. f c ≡ g c) c cs h) i

module _ (w : World) (r new s ns : Reads) (OK NewOK : ℕ → Type 0) (Sees : ℕ → List Value → Type 0)
    (agree : (g : ℕ) (v : List Value) → OK g → Sees g v → r g v ≡ s g v)
    (agree_new : (g : ℕ) (v : List Value) → NewOK g → Sees g v → new g v ≡ ns g v)
  where
    mutual
      pub value_same : (e : Tree) (x : List Value) → LooksAt OK NewOK e → DependsOn w r new Sees x e → value_of w r new x e ≡ value_of w s ns x e
      value_same (Const v) x ok h = refl
      value_same (Var k) x ok h = refl
      value_same (Not a) x ok h = ap (λ v. value.Truth (not (is_true v))) (value_same a x ok h)
      value_same (Two o a b) x ok h =
          right_same w o (value_of w r new x a) (value_of w r new x b) (value_of w s ns x b) (λ m. value_same b x ok.1 (h.1 m))
          ∙ ap (λ v. two w o v (value_of w s ns x b)) (value_same a x ok.0 h.0)
      value_same (If c a b) x ok h =
          if_same (is_true (value_of w r new x c)) (value_of w r new x a) (value_of w r new x b) (value_of w s ns x a) (value_of w s ns x b) (λ e. value_same a x ok.1 (h.1 e)) (λ e. value_same b x ok.2 (h.2 e))
          ∙ ap (λ v. if is_true v then value_of w s ns x a else value_of w s ns x b) (value_same c x ok.0 h.0)
      value_same (Param p ds) x ok h = ap (w.param p) (values_same ds x ok h)
      value_same (Look g ds) x ok h = agree g (values_of w r new x ds) ok.0 h.1 ∙ ap (s g) (values_same ds x ok.1 h.0)
      value_same (Every k t b) x ok h =
          ap value.Truth (all_same (λ c. is_true (value_of w r new (take k x ++ c ∷ []) b)) (λ c. is_true (value_of w s ns (take k x ++ c ∷ []) b)) (proper_values w.sizes t)
          (All-weaker (Contains (proper_values w.sizes t)) (λ c. is_true (value_of w r new (take k x ++ c ∷ []) b) ≡ is_true (value_of w s ns (take k x ++ c ∷ []) b)) (λ c m. ap is_true (value_same b (take k x ++ c ∷ []) ok (h c m))) (proper_values w.sizes t) (All-contains_itself (proper_values w.sizes t))))
      value_same (New g ds) x ok h = agree_new g (values_of w r new x ds) ok.0 h.1 ∙ ap (ns g) (values_same ds x ok.1 h.0)

      pub values_same : (ds : Trees) (x : List Value) → LookAt OK NewOK ds → DependOn w r new Sees x ds → values_of w r new x ds ≡ values_of w s ns x ds
      values_same none x ok h = refl
      values_same (more d ds) x ok h = λ i. value_same d x ok.0 h.0 i ∷ values_same ds x ok.1 h.1 i

-- each reference is seen where everything is
mutual
  all_below : (w : World) (r new : Reads) (e : Tree) (x : List Value) → DependsOn w r new (λ g v. Unit {0}) x e
  all_below w r new (Const v) x = tt
  all_below w r new (Var k) x = tt
  all_below w r new (Not a) x = all_below w r new a x
  all_below w r new (Two o a b) x = (all_below w r new a x, λ m. all_below w r new b x)
  all_below w r new (If c a b) x = (all_below w r new c x, λ m. all_below w r new a x, λ m. all_below w r new b x)
  all_below w r new (Param p ds) x = all_belows w r new ds x
  all_below w r new (Look g ds) x = (all_belows w r new ds x, tt)
  all_below w r new (Every k t b) x = λ c m. all_below w r new b (take k x ++ c ∷ [])
  all_below w r new (New g ds) x = (all_belows w r new ds x, tt)

  all_belows : (w : World) (r new : Reads) (ds : Trees) (x : List Value) → DependOn w r new (λ g v. Unit {0}) x ds
  all_belows w r new none x = tt
  all_belows w r new (more d ds) x = (all_below w r new d x, all_belows w r new ds x)

-- over readings that agree wherever e looks, e has one value
pub value_agrees : (w : World) (r new s ns : Reads) (OK : ℕ → Type 0) → ((g : ℕ) (v : List Value) → OK g → r g v ≡ s g v) → (e : Tree) (x : List Value) → LooksAt OK Nothing e → value_of w r new x e ≡ value_of w s ns x e
value_agrees w r new s ns OK agree e x ok = value_same w r new s ns OK Nothing (λ g v. Unit {0}) (λ g v o u. agree g v o) (λ g v o u. absurd o) e x ok (all_below w r new e x)

-- over new states that agree wherever it reads new values, an expression has one value
module _ (w : World) (r new other : Reads) (NewOK : ℕ → Type 0) (agree : (g : ℕ) (v : List Value) → NewOK g → new g v ≡ other g v) where
  pub value_agrees_new : (e : Tree) (x : List Value) → LooksAt Anything NewOK e → value_of w r new x e ≡ value_of w r other x e
  value_agrees_new e x ok = value_same w r new r other Anything NewOK (λ g v. Unit {0}) (λ g v o u. refl) (λ g v o u. agree g v o) e x ok (all_below w r new e x)

  pub values_agree_new : (ds : Trees) (x : List Value) → LookAt Anything NewOK ds → values_of w r new x ds ≡ values_of w r other x ds
  values_agree_new ds x ok = values_same w r new r other Anything NewOK (λ g v. Unit {0}) (λ g v o u. refl) (λ g v o u. agree g v o) ds x ok (all_belows w r new ds x)

-- an expression that reads no new value has one value over whatever new state
pub value_no_new : (w : World) (r new other : Reads) (e : Tree) (x : List Value) → LooksAt Anything Nothing e → value_of w r new x e ≡ value_of w r other x e
value_no_new w r new other e x ok = value_agrees_new w r new other Nothing (λ g v o. absurd o) e x ok

pub values_no_new : (w : World) (r new other : Reads) (ds : Trees) (x : List Value) → LookAt Anything Nothing ds → values_of w r new x ds ≡ values_of w r other x ds
values_no_new w r new other ds x ok = values_agree_new w r new other Nothing (λ g v o. absurd o) ds x ok

-- every expression looks at functions
mutual
  pub looks_anywhere : (e : Tree) → LooksAt Anything Anything e
  looks_anywhere (Const v) = tt
  looks_anywhere (Var k) = tt
  looks_anywhere (Not a) = looks_anywhere a
  looks_anywhere (Two o a b) = (looks_anywhere a, looks_anywhere b)
  looks_anywhere (If c a b) = (looks_anywhere c, looks_anywhere a, looks_anywhere b)
  looks_anywhere (Param p ds) = look_anywhere ds
  looks_anywhere (Look g ds) = (tt, look_anywhere ds)
  looks_anywhere (Every k t b) = looks_anywhere b
  looks_anywhere (New g ds) = (tt, look_anywhere ds)

  pub look_anywhere : (ds : Trees) → LookAt Anything Anything ds
  look_anywhere none = tt
  look_anywhere (more d ds) = (looks_anywhere d, look_anywhere ds)

-- an expression that depends on places at or below a level alone has one value over pairs of states that are alike there
pub alike_values : (m : Machine) (l : ℕ) (s u t v : Store) → Alike m l s t → Alike m l u v → (x : List Value) (e : Tree) → DependsOn m.world (look m.world m.functions s) (look m.world m.functions u) (IsLow m l) x e
    → value_over m.world m.functions s u x e ≡ value_over m.world m.functions t v x e
alike_values m l s u t v alike new_alike x e low =
    value_same m.world (look m.world m.functions s) (look m.world m.functions u) (look m.world m.functions t) (look m.world m.functions v) Anything Anything (IsLow m l) (λ g v o h. alike.same g v h) (λ g v o h. new_alike.same g v h) e x (looks_anywhere e) low

-- being alike goes back and on
pub Alike-sym : (m : Machine) (l : ℕ) (s t : Store) → Alike m l s t → Alike m l t s
Alike-sym m l s t h = record { same = λ g v low. sym (h.same g v low) }

pub Alike-trans : (m : Machine) (l : ℕ) (s t u : Store) → Alike m l s t → Alike m l t u → Alike m l s u
Alike-trans m l s t u h k = record { same = λ g v low. h.same g v low ∙ k.same g v low }
