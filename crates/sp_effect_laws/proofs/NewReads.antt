-- The new values that a translation reads are those of quoted references in its text.
use Rattle.std.proofs.Common.{◌≡◌, refl, subst, ℕ, List, [], ◌∷◌, ◌++◌, ◌⊎◌, inl, inr, Bool, true, false, Option, Some, None, length}
use Rattle.std.specs.Prelude.{slice_get}
use Rattle.std.specs.List.{Contains}
use Rattle.std.proofs.lemmas.List.Elements.{Contains-append_cases, Contains-append_left, Contains-append_right}
use Rattle.sp_text.specs.declared.fault.Span.{Span}
use Rattle.sp_values.specs.declared.value.Ty.{Ty}
use Rattle.sp_tree.specs.declared.expr.BinOp.{BinOp}
use Rattle.sp_tree.specs.declared.expr.BinOp.TheVariants as bin
use Rattle.sp_core.specs.declared.expr.Expr.{Expr}
use Rattle.sp_core.specs.Measures.{Anything, LooksAt, LookAt, Nothing}
use Rattle.sp_core.specs.Ranks.{new_reads, new_reads_in}
use Rattle.sp_core.specs.Tree.{Tree, Trees, tree}
use Rattle.sp_core.specs.Tree as core
use Rattle.sp_core.proofs.Elements.{Contains-cons, Contains-first, Contains-nil}
use Rattle.sp_plain.specs.Text.{Text, Texts, Name, Number, Truth, Unknown, Bottom, Top, Call, New, Paren, Not, Binary, Join, If, Quant, none, more}
use Rattle.sp_naming.specs.declared.declaration.Entity.TheVariants as entity
use Rattle.sp_scopes.specs.declared.heads.Local.{Local}
use Rattle.sp_judge.specs.Names.{meaning, type_of, with_formal}
use Rattle.sp_judge.specs.Translation.{own, either_type, binary_core, call_core, new_core, name_core, expanded, quant_core, translation, translations}
use Rattle.sp_judge.specs.Visible.{Visible}
use Rattle.sp_judge.specs.declared.scope.Meaning.{Meaning}
use Rattle.sp_judge.specs.declared.scope.Meaning.TheVariants as meaning_
use Rattle.sp_typed.specs.Fits.{HoldNoNew}
use Rattle.sp_typed.proofs.Quotes.{looks-weaken, put_looks}
use Rattle.sp_cycles.specs.declared.order.Quoted.{Quoted}
use Rattle.sp_effects.specs.EffectRules.{quote_of, quotes, quotes_in}

-- each function that an expression reads new meets what is said of all of them
module _ (N : ℕ → Type 0) where
  mutual
    pub reads_meet : (e : Tree) → LooksAt Anything N e → (h : ℕ) → Contains (new_reads e) h → N h
    reads_meet (core.Const v) k h c = absurd (Contains-nil h c)
    reads_meet (core.Var j) k h c = absurd (Contains-nil h c)
    reads_meet (core.Not a) k h c = reads_meet a k h c
    reads_meet (core.Two o a b) k h c = elim (Contains-append_cases (new_reads a) (new_reads b) h c) [
      | inl x ↦ reads_meet a k.0 h x
      | inr x ↦ reads_meet b k.1 h x
    ]
    reads_meet (core.If d a b) k h c = elim (Contains-append_cases (new_reads d) (new_reads a ++ new_reads b) h c) [
      | inl x ↦ reads_meet d k.0 h x
      | inr y ↦ elim (Contains-append_cases (new_reads a) (new_reads b) h y) [
        | inl x ↦ reads_meet a k.1 h x
        | inr x ↦ reads_meet b k.2 h x
      ]
    ]
    reads_meet (core.Param p ds) k h c = all_meet ds k h c
    reads_meet (core.Look g ds) k h c = all_meet ds k.1 h c
    reads_meet (core.Every j t b) k h c = reads_meet b k h c
    reads_meet (core.New g ds) k h c = elim (Contains-append_cases (new_reads_in ds) (g ∷ []) h c) [
      | inl x ↦ all_meet ds k.1 h x
      | inr x ↦ elim (Contains-cons g [] h x) [
        | inl same ↦ subst N same k.0
        | inr z ↦ absurd (Contains-nil h z)
      ]
    ]

    pub all_meet : (ds : Trees) → LookAt Anything N ds → (h : ℕ) → Contains (new_reads_in ds) h → N h
    all_meet core.none k h c = absurd (Contains-nil h c)
    all_meet (core.more d ds) k h c = elim (Contains-append_cases (new_reads d) (new_reads_in ds) h c) [
      | inl x ↦ reads_meet d k.0 h x
      | inr x ↦ all_meet ds k.1 h x
    ]

module _ (s : Visible) (fresh : HoldNoNew s) (g : ℕ) (N : ℕ → Type 0) where
  -- what is read new by these quoted references in a change of function g
  abbrev AreRead : List Quoted → Type 0
  AreRead qs = (q : Quoted) → Contains qs q → q.changed ≡ g → N q.read

  left : (as' bs : List Quoted) → AreRead (as' ++ bs) → AreRead as'
  left as' bs h q c e = h q (Contains-append_left as' bs q c) e

  right : (as' bs : List Quoted) → AreRead (as' ++ bs) → AreRead bs
  right as' bs h q c e = h q (Contains-append_right as' bs q c) e

  expanded_reads : (n : ℕ) (ds : Trees) (o : Option Expr) → ((e : Expr) → o ≡ Some e → LooksAt Anything Nothing (tree e)) → LookAt Anything N ds → LooksAt Anything N (expanded n ds o)
  expanded_reads n ds None k h = tt
  expanded_reads n ds (Some e) k h = put_looks Anything N (tree e) n ds h (looks-weaken Anything Nothing Anything N (λ g x. x) (λ g x. absurd x) (tree e) (k e refl))

  name_reads : (m : Meaning) → LooksAt Anything N (name_core m)
  name_reads meaning_.Nothing = tt
  name_reads (meaning_.Variable k t) = tt
  name_reads (meaning_.Shared (entity.Declared t)) = tt
  name_reads (meaning_.Shared (entity.Member t k)) = tt
  name_reads (meaning_.Shared (entity.Param t)) = tt
  name_reads (meaning_.Shared (entity.Definition t)) = tt
  name_reads (meaning_.Shared (entity.Function t)) = tt
  name_reads (meaning_.Shared (entity.Level t)) = tt

  call_reads : (n : ℕ) (m : Meaning) (ds : Trees) → LookAt Anything N ds → LooksAt Anything N (call_core s n m ds)
  call_reads n meaning_.Nothing ds h = tt
  call_reads n (meaning_.Variable k t) ds h = tt
  call_reads n (meaning_.Shared (entity.Declared t)) ds h = tt
  call_reads n (meaning_.Shared (entity.Member t k)) ds h = tt
  call_reads n (meaning_.Shared (entity.Param t)) ds h = h
  call_reads n (meaning_.Shared (entity.Definition t)) ds h = expanded_reads n ds (slice_get s.cores t) (fresh t) h
  call_reads n (meaning_.Shared (entity.Function t)) ds h = (tt, h)
  call_reads n (meaning_.Shared (entity.Level t)) ds h = tt

  quote_reads : (p : Span) (m : Meaning) (ds : Trees) → AreRead (quote_of g p m) → LookAt Anything N ds → LooksAt Anything N (new_core m ds)
  quote_reads p meaning_.Nothing ds h k = tt
  quote_reads p (meaning_.Variable n t) ds h k = tt
  quote_reads p (meaning_.Shared (entity.Declared t)) ds h k = tt
  quote_reads p (meaning_.Shared (entity.Member t n)) ds h k = tt
  quote_reads p (meaning_.Shared (entity.Param t)) ds h k = tt
  quote_reads p (meaning_.Shared (entity.Definition t)) ds h k = tt
  quote_reads p (meaning_.Shared (entity.Function t)) ds h k = let q : Quoted = record { place = p; read = t; changed = g } in (h q (Contains-first q []) refl, k)
  quote_reads p (meaning_.Shared (entity.Level t)) ds h k = tt

  binary_reads : (o : BinOp) (t : Option Ty) (a b : Tree) → LooksAt Anything N a → LooksAt Anything N b → LooksAt Anything N (binary_core o t a b)
  binary_reads bin.Iff t a b h k = (h, k)
  binary_reads bin.Implies t a b h k = (h, k)
  binary_reads bin.Or t a b h k = (h, k)
  binary_reads bin.And t a b h k = (h, k)
  binary_reads bin.Eq t a b h k = (h, k)
  binary_reads bin.Ne t a b h k = (h, k)
  binary_reads bin.Lt t a b h k = (h, k)
  binary_reads bin.Le t a b h k = (h, k)
  binary_reads bin.Gt t a b h k = (k, h)
  binary_reads bin.Ge t a b h k = (k, h)
  binary_reads bin.Add t a b h k = (h, k)
  binary_reads bin.Sub t a b h k = (h, k)
  binary_reads bin.Mul t a b h k = (h, k)

  quant_reads : (u : Bool) (n : ℕ) (t : Ty) (b : Tree) → LooksAt Anything N b → LooksAt Anything N (quant_core u n t b)
  quant_reads true n t b h = h
  quant_reads false n t b h = h

  mutual
    pub quoted : (l : List Local) (e : Text) → AreRead (quotes s g l e) → LooksAt Anything N (translation s l e)
    quoted l (Name p x) h = name_reads (meaning s l x)
    quoted l (Number p m) h = tt
    quoted l (Truth p b) h = tt
    quoted l (Unknown p) h = tt
    quoted l (Bottom p) h = tt
    quoted l (Top p) h = tt
    quoted l (Call p f ds) h = call_reads (length l) (meaning s l f.name) (translations s l ds) (all_quoted l ds h)
    quoted l (New p f ds) h =
        let as' = quotes_in s g l ds in
        let own = quote_of g p (meaning s l f.name) in
        quote_reads p (meaning s l f.name) (translations s l ds) (right as' own h) (all_quoted l ds (left as' own h))
    quoted l (Paren p a) h = quoted l a h
    quoted l (Not p a) h = quoted l a h
    quoted l (Binary p o a b) h =
        binary_reads o (either_type (own s l a) (own s l b)) (translation s l a) (translation s l b) (quoted l a (left (quotes s g l a) (quotes s g l b) h)) (quoted l b (right (quotes s g l a) (quotes s g l b) h))
    quoted l (Join p u a b) h = (quoted l a (left (quotes s g l a) (quotes s g l b) h), quoted l b (right (quotes s g l a) (quotes s g l b) h))
    quoted l (If p c a b) h =
        let x = quotes s g l c in
        let y = quotes s g l a in
        let z = quotes s g l b in
        let yz = right x (y ++ z) h in
        (quoted l c (left x (y ++ z) h), quoted l a (left y z yz), quoted l b (right y z yz))
    quoted l (Quant p u f b) h = quant_reads u (length l) (type_of s f.ty) (translation s (with_formal s l f) b) (quoted (with_formal s l f) b h)

    pub all_quoted : (l : List Local) (ds : Texts) → AreRead (quotes_in s g l ds) → LookAt Anything N (translations s l ds)
    all_quoted l none h = tt
    all_quoted l (more d ds) h = (quoted l d (left (quotes s g l d) (quotes_in s g l ds) h), all_quoted l ds (right (quotes s g l d) (quotes_in s g l ds) h))
