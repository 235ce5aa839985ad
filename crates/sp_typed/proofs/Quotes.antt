-- What breaks no rule reads those new values alone that its place allows.
use Rattle.std.proofs.Common.{◌≡◌, refl, sym, ◌∙◌, ap, subst, rules, arith, ℕ, zero, suc, Bool, true, false, List, [], ◌∷◌, ◌++◌, Option, Some, None, length}
use Rattle.std.specs.Prelude.{slice_get, IsTrue, nat_lt, if◌then◌else◌}
use Rattle.sp_text.specs.declared.fault.Span.{Span}
use Rattle.sp_values.specs.declared.value.Ty.{Ty}
use Rattle.sp_values.specs.declared.value.Ty.TheVariants as ty
use Rattle.sp_tree.specs.declared.expr.BinOp.{BinOp}
use Rattle.sp_tree.specs.declared.expr.BinOp.TheVariants as bin
use Rattle.sp_core.specs.declared.expr.Expr.{Expr}
use Rattle.sp_core.specs.Tree.{Tree, Trees, tree}
use Rattle.sp_core.specs.Tree as core
use Rattle.sp_core.specs.Measures.{Anything, LooksAt, LookAt, Nothing}
use Rattle.sp_expand.specs.Expansion.{nth_tree, raise, raise_all, joined, under, put, put_all}
use Rattle.sp_plain.specs.Text.{Text, Texts, Name, Number, Truth, Unknown, Bottom, Top, Call, New, Paren, Not, Binary, Join, If, Quant, none, more, count, span}
use Rattle.sp_naming.specs.declared.declaration.Entity.{Entity}
use Rattle.sp_naming.specs.declared.declaration.Entity.TheVariants as entity
use Rattle.sp_scopes.specs.declared.heads.Head.{Head}
use Rattle.sp_judge.specs.declared.scope.Site.{Site}
use Rattle.sp_judge.specs.declared.scope.Site.TheVariants as site
use Rattle.sp_judge.specs.Visible.{Visible, function_at}
use Rattle.sp_scopes.specs.declared.heads.Local.{Local}
use Rattle.sp_judge.specs.declared.scope.Meaning.{Meaning}
use Rattle.sp_judge.specs.declared.scope.Meaning.TheVariants as meaning_
use Rattle.sp_judge.specs.Names.{meaning, head_of, type_of_head, type_of, with_formal}
use Rattle.sp_text.specs.declared.fault.Rule.TheVariants as rule
use Rattle.sp_text.specs.Firsts.{behind}
use Rattle.sp_text.specs.Violations.{breaks}
use Rattle.sp_judge.specs.Translation.{own, either_type, binary_type, binary_core, call_core, new_core, name_core, expanded, quant_core, translation, translations}
use Rattle.sp_judge.specs.Broken.{asks, sides_asked, sides_rules, branch_rules, called_rules, quoted_rules, may_quote, quote_rule, quote_rules, asked_of, count_rule, result_rule, formal_rules, rest, next_type, broken, all_broken}
use Rattle.sp_typed.specs.Fits.{IsOld, MayQuote, HoldNoNew}
use Rattle.sp_typed.proofs.Fitting.{behind_inner, behind_own, append_left, append_right}

module _ (P N : ℕ → Type 0) where
  mutual
    pub raise_looks : (m : ℕ) (e : Tree) → LooksAt P N e → LooksAt P N (raise m e)
    raise_looks m (core.Const v) h = h
    raise_looks m (core.Var k) h = h
    raise_looks m (core.Not a) h = raise_looks m a h
    raise_looks m (core.Two o a b) h = (raise_looks m a h.0, raise_looks m b h.1)
    raise_looks m (core.If c a b) h = (raise_looks m c h.0, raise_looks m a h.1, raise_looks m b h.2)
    raise_looks m (core.Param p ds) h = raise_all_looks m ds h
    raise_looks m (core.Look g ds) h = (h.0, raise_all_looks m ds h.1)
    raise_looks m (core.Every k t b) h = raise_looks m b h
    raise_looks m (core.New g ds) h = (h.0, raise_all_looks m ds h.1)

    raise_all_looks : (m : ℕ) (ds : Trees) → LookAt P N ds → LookAt P N (raise_all m ds)
    raise_all_looks m core.none h = h
    raise_all_looks m (core.more d ds) h = (raise_looks m d h.0, raise_all_looks m ds h.1)

  joined_looks : (ds : Trees) (a : Tree) → LookAt P N ds → LooksAt P N a → LookAt P N (joined ds a)
  joined_looks core.none a h k = (k, tt)
  joined_looks (core.more d ds) a h k = (h.0, joined_looks ds a h.1 k)

  under_looks : (n : ℕ) (ds : Trees) → LookAt P N ds → LookAt P N (under n ds)
  under_looks n ds h = joined_looks (raise_all n ds) (core.Var n) (raise_all_looks n ds h) tt

  nth_looks : (ds : Trees) (k : ℕ) → LookAt P N ds → LooksAt P N (nth_tree ds k)
  nth_looks core.none k h = tt
  nth_looks (core.more d ds) zero h = h.0
  nth_looks (core.more d ds) (suc k) h = nth_looks ds k h.1

  mutual
    pub put_looks : (e : Tree) (n : ℕ) (ds : Trees) → LookAt P N ds → LooksAt P N e → LooksAt P N (put n ds e)
    put_looks (core.Const v) n ds h k = k
    put_looks (core.Var j) n ds h k = nth_looks ds j h
    put_looks (core.Not a) n ds h k = put_looks a n ds h k
    put_looks (core.Two o a b) n ds h k = (put_looks a n ds h k.0, put_looks b n ds h k.1)
    put_looks (core.If c a b) n ds h k = (put_looks c n ds h k.0, put_looks a n ds h k.1, put_looks b n ds h k.2)
    put_looks (core.Param p es) n ds h k = put_all_looks es n ds h k
    put_looks (core.Look g es) n ds h k = (k.0, put_all_looks es n ds h k.1)
    put_looks (core.Every j t b) n ds h k = put_looks b (suc n) (under n ds) (under_looks n ds h) k
    put_looks (core.New g es) n ds h k = (k.0, put_all_looks es n ds h k.1)

    put_all_looks : (es : Trees) (n : ℕ) (ds : Trees) → LookAt P N ds → LookAt P N es → LookAt P N (put_all n ds es)
    put_all_looks core.none n ds h k = k
    put_all_looks (core.more e es) n ds h k = (put_looks e n ds h k.0, put_all_looks es n ds h k.1)

-- of expressions, what may be read may be more
module _ (P N Q M : ℕ → Type 0) (p : (g : ℕ) → P g → Q g) (n : (g : ℕ) → N g → M g) where
  mutual
    pub looks-weaken : (e : Tree) → LooksAt P N e → LooksAt Q M e
    looks-weaken (core.Const v) h = h
    looks-weaken (core.Var k) h = h
    looks-weaken (core.Not a) h = looks-weaken a h
    looks-weaken (core.Two o a b) h = (looks-weaken a h.0, looks-weaken b h.1)
    looks-weaken (core.If c a b) h = (looks-weaken c h.0, looks-weaken a h.1, looks-weaken b h.2)
    looks-weaken (core.Param k ds) h = look-weaken ds h
    looks-weaken (core.Look g ds) h = (p g h.0, look-weaken ds h.1)
    looks-weaken (core.Every k t b) h = looks-weaken b h
    looks-weaken (core.New g ds) h = (n g h.0, look-weaken ds h.1)

    pub look-weaken : (ds : Trees) → LookAt P N ds → LookAt Q M ds
    look-weaken core.none h = h
    look-weaken (core.more d ds) h = (looks-weaken d h.0, look-weaken ds h.1)

module _ (s : Visible) (i : Site) (w : HoldNoNew s) where
  Here : Tree → Type 0
  Here e = LooksAt Anything (MayQuote s i) e

  expanded_here : (n : ℕ) (ds : Trees) (o : Option Expr) → ((e : Expr) → o ≡ Some e → LooksAt Anything Nothing (tree e)) → LookAt Anything (MayQuote s i) ds → LooksAt Anything (MayQuote s i) (expanded n ds o)
  expanded_here n ds None k h = tt
  expanded_here n ds (Some e) k h = put_looks Anything (MayQuote s i) (tree e) n ds h (looks-weaken Anything Nothing Anything (MayQuote s i) (λ g x. x) (λ g x. absurd x) (tree e) (k e refl))

  name_here : (m : Meaning) → LooksAt Anything (MayQuote s i) (name_core m)
  name_here meaning_.Nothing = tt
  name_here (meaning_.Variable k t) = tt
  name_here (meaning_.Shared (entity.Declared t)) = tt
  name_here (meaning_.Shared (entity.Member t k)) = tt
  name_here (meaning_.Shared (entity.Param t)) = tt
  name_here (meaning_.Shared (entity.Definition t)) = tt
  name_here (meaning_.Shared (entity.Function t)) = tt
  name_here (meaning_.Shared (entity.Level t)) = tt

  call_here : (n : ℕ) (m : Meaning) (ds : Trees) → LookAt Anything (MayQuote s i) ds → LooksAt Anything (MayQuote s i) (call_core s n m ds)
  call_here n meaning_.Nothing ds h = tt
  call_here n (meaning_.Variable k t) ds h = tt
  call_here n (meaning_.Shared (entity.Declared t)) ds h = tt
  call_here n (meaning_.Shared (entity.Member t k)) ds h = tt
  call_here n (meaning_.Shared (entity.Param t)) ds h = h
  call_here n (meaning_.Shared (entity.Definition t)) ds h = expanded_here n ds (slice_get s.cores t) (w t) h
  call_here n (meaning_.Shared (entity.Function t)) ds h = (tt, h)
  call_here n (meaning_.Shared (entity.Level t)) ds h = tt

  quote-allowed : (p : Span) (o : Option Head) → quote_rules i p o ≡ [] → IsTrue (may_quote i o)
  quote-allowed p o h = by (may_quote i o) refl h
    where
      by : (b : Bool) → may_quote i o ≡ b → (if b then [] else breaks p (quote_rule i)) ≡ [] → IsTrue (may_quote i o)
      by true e k = e
      by false e k = cc

  new_here : (p : Span) (m : Meaning) (ds : Trees) → quote_rules i p (head_of s m) ≡ [] → LookAt Anything (MayQuote s i) ds → LooksAt Anything (MayQuote s i) (new_core m ds)
  new_here p meaning_.Nothing ds h k = tt
  new_here p (meaning_.Variable n t) ds h k = tt
  new_here p (meaning_.Shared (entity.Declared t)) ds h k = tt
  new_here p (meaning_.Shared (entity.Member t n)) ds h k = tt
  new_here p (meaning_.Shared (entity.Param t)) ds h k = tt
  new_here p (meaning_.Shared (entity.Definition t)) ds h k = tt
  new_here p (meaning_.Shared (entity.Function t)) ds h k = (quote-allowed p (function_at s t) h, k)
  new_here p (meaning_.Shared (entity.Level t)) ds h k = tt

  binary_here : (o : BinOp) (t : Option Ty) (a b : Tree) → LooksAt Anything (MayQuote s i) a → LooksAt Anything (MayQuote s i) b → LooksAt Anything (MayQuote s i) (binary_core o t a b)
  binary_here bin.Iff t a b h k = (h, k)
  binary_here bin.Implies t a b h k = (h, k)
  binary_here bin.Or t a b h k = (h, k)
  binary_here bin.And t a b h k = (h, k)
  binary_here bin.Eq t a b h k = (h, k)
  binary_here bin.Ne t a b h k = (h, k)
  binary_here bin.Lt t a b h k = (h, k)
  binary_here bin.Le t a b h k = (h, k)
  binary_here bin.Gt t a b h k = (k, h)
  binary_here bin.Ge t a b h k = (k, h)
  binary_here bin.Add t a b h k = (h, k)
  binary_here bin.Sub t a b h k = (h, k)
  binary_here bin.Mul t a b h k = (h, k)

  quant_here : (u : Bool) (n : ℕ) (t : Ty) (b : Tree) → LooksAt Anything (MayQuote s i) b → LooksAt Anything (MayQuote s i) (quant_core u n t b)
  quant_here true n t b h = h
  quant_here false n t b h = h

  mutual
    pub news : (l : List Local) (q : Option Ty) (e : Text) → broken s i l q e ≡ [] → LooksAt Anything (MayQuote s i) (translation s l e)
    news l q (Name p x) h = name_here (meaning s l x)
    news l q (Number p m) h = tt
    news l q (Truth p b) h = tt
    news l q (Unknown p) h = tt
    news l q (Bottom p) h = tt
    news l q (Top p) h = tt
    news l q (Call p f ds) h =
        let m = meaning s l f.name in
        let fs = asked_of (head_of s m) (count ds) in
        let as' = all_broken s i l fs ds in
        let c = count_rule f.span (head_of s m) (count ds) in
        call_here (length l) m (translations s l ds) (all_news l fs ds (append_right (called_rules s f.span p m) as' (behind_inner (called_rules s f.span p m ++ as') c (behind_inner (behind (called_rules s f.span p m ++ as') c) (result_rule q p (type_of_head (head_of s m))) h))))
    news l q (New p f ds) h =
        let m = meaning s l f.name in
        let fs = asked_of (head_of s m) (count ds) in
        let as' = all_broken s i l fs ds in
        let c = count_rule f.span (head_of s m) (count ds) in
        let r = result_rule q p (type_of_head (head_of s m)) in
        let v = quote_rules i p (head_of s m) in
        new_here p m (translations s l ds) (append_right r v (behind_own (behind (quoted_rules s f.span m ++ as') c) (r ++ v) h))
        (all_news l fs ds (append_right (quoted_rules s f.span m) as' (behind_inner (quoted_rules s f.span m ++ as') c (behind_inner (behind (quoted_rules s f.span m ++ as') c) (r ++ v) h))))
    news l q (Paren p d) h = news l q d h
    news l q (Not p d) h = news l (Some ty.Boolean) d (behind_inner (broken s i l (Some ty.Boolean) d) (asks q p ty.Boolean) h)
    news l q (Binary p o d e) h =
        let left = broken s i l (sides_asked o) d in
        let right = broken s i l (sides_asked o) e in
        let sides = sides_rules s l o p d e (own s l d) (own s l e) in
        let both = behind_inner (left ++ right) sides (behind_inner (behind (left ++ right) sides) (asks q p (binary_type o)) h) in
        binary_here o (either_type (own s l d) (own s l e)) (translation s l d) (translation s l e) (news l (sides_asked o) d (append_left left right both)) (news l (sides_asked o) e (append_right left right both))
    news l q (Join p u d e) h =
        let left = broken s i l (Some ty.Level) d in
        let right = broken s i l (Some ty.Level) e in
        let both = behind_inner (left ++ right) (asks q p ty.Level) h in
        (news l (Some ty.Level) d (append_left left right both), news l (Some ty.Level) e (append_right left right both))
    news l q (If p c d e) h =
        let k = broken s i l (Some ty.Boolean) c in
        let left = broken s i l q d in
        let right = broken s i l q e in
        let all = behind_inner (k ++ (left ++ right)) (branch_rules q d e (own s l d) (own s l e)) h in
        let both = append_right k (left ++ right) all in
        (news l (Some ty.Boolean) c (append_left k (left ++ right) all), news l q d (append_left left right both), news l q e (append_right left right both))
    news l q (Quant p u f b) h =
        let m = with_formal s l f in
        let body = broken s i m (Some ty.Boolean) b in
        quant_here u (length l) (type_of s f.ty) (translation s m b) (news m (Some ty.Boolean) b (behind_own (formal_rules s l f) body (behind_inner (behind (formal_rules s l f) body) (asks q p ty.Boolean) h)))

    all_news : (l fs : List Local) (ds : Texts) → all_broken s i l fs ds ≡ [] → LookAt Anything (MayQuote s i) (translations s l ds)
    all_news l fs none h = tt
    all_news l fs (more d ds) h = (news l (next_type fs) d (append_left (broken s i l (next_type fs) d) (all_broken s i l (rest fs) ds) h), all_news l (rest fs) ds (append_right (broken s i l (next_type fs) d) (all_broken s i l (rest fs) ds) h))

may-not : (i : Site) (o : Option Head) → IsOld i → IsTrue (may_quote i o) → ⊥
may-not site.Outside o h k = cc
may-not site.Guard o h k = cc
may-not site.Right o h k = h
may-not site.Loose o h k = h

-- where no quoted reference may stand no new value is read
pub no_new : (s : Visible) (i : Site) → IsOld i → HoldNoNew s → (l : List Local) (q : Option Ty) (e : Text) → broken s i l q e ≡ [] → LooksAt Anything Nothing (translation s l e)
no_new s i old w l q e h = looks-weaken Anything (MayQuote s i) Anything Nothing (λ g x. x) (λ g x. may-not i (function_at s g) old x) (translation s l e) (news s i w l q e h)
