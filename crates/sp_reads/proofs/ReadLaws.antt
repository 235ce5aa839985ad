-- What reads no flagged V-function looks at those alone that are clear.
use Rattle.std.proofs.Common.{◌≡◌, refl, sym, ◌∙◌, ap, subst, rules, arith, ℕ, zero, suc, Bool, true, false, List, [], ◌∷◌, ◌++◌, Option, Some, None, length}
use Rattle.std.specs.Prelude.{slice_get, if◌then◌else◌}
use Rattle.sp_text.specs.declared.fault.Span.{Span}
use Rattle.sp_values.specs.declared.value.Ty.{Ty}
use Rattle.sp_tree.specs.declared.expr.BinOp.{BinOp}
use Rattle.sp_tree.specs.declared.expr.BinOp.TheVariants as bin
use Rattle.sp_core.specs.declared.expr.Expr.{Expr}
use Rattle.sp_core.specs.Tree.{Tree, Trees, tree}
use Rattle.sp_core.specs.Tree as core
use Rattle.sp_core.specs.Measures.{LooksAt, LookAt}
use Rattle.sp_expand.specs.Expansion.{nth_tree, raise, raise_all, joined, under, put, put_all}
use Rattle.sp_plain.specs.Text.{Text, Texts, Name, Number, Truth, Unknown, Bottom, Top, Call, New, Paren, Not, Binary, Join, If, Quant, none, more}
use Rattle.sp_text.specs.declared.fault.Rule.{Rule}
use Rattle.sp_text.specs.declared.violation.Violation.{Violation}
use Rattle.sp_naming.specs.declared.declaration.Entity.{Entity}
use Rattle.sp_naming.specs.declared.declaration.Entity.TheVariants as entity
use Rattle.sp_judge.specs.Visible.{Visible}
use Rattle.sp_scopes.specs.declared.heads.Local.{Local}
use Rattle.sp_judge.specs.declared.scope.Meaning.{Meaning}
use Rattle.sp_judge.specs.declared.scope.Meaning.TheVariants as meaning_
use Rattle.sp_judge.specs.Names.{meaning, type_of, with_formal}
use Rattle.sp_text.specs.Violations.{breaks}
use Rattle.sp_judge.specs.Translation.{own, either_type, binary_core, call_core, new_core, name_core, expanded, quant_core, translation, translations}
use Rattle.sp_typed.proofs.Fitting.{append_left, append_right}
use Rattle.sp_typed.proofs.Quotes.{raise_looks}
use Rattle.sp_reads.specs.Reads.{nth_list, is_flagged, read, reads_put, reads_put_in}
use Rattle.sp_reads.specs.ReadTexts.{together, expanded_reads, call_reads, quote_reads, reads, read_lists, IsClear}

module _ (flags : List Bool) (r : Rule) where
  abbrev Clear : Tree → Type 0
  Clear e = LooksAt (IsClear flags) (IsClear flags) e

  abbrev AllClear : Trees → Type 0
  AllClear ds = LookAt (IsClear flags) (IsClear flags) ds

  read-clear : (p : Span) (g : ℕ) → read flags p r g ≡ [] → IsClear flags g
  read-clear p g h = by (is_flagged (slice_get flags g)) refl h
    where
      by : (b : Bool) → is_flagged (slice_get flags g) ≡ b → (if b then breaks p r else []) ≡ [] → is_flagged (slice_get flags g) ≡ false
      by true e k = cc
      by false e k = e

  -- an argument without a read is clear
  abbrev AreClear : List (List Violation) → Trees → Type 0
  AreClear as' ds = (k : ℕ) → nth_list as' k ≡ [] → Clear (nth_tree ds k)

  raised_nth : (n : ℕ) (ds : Trees) (k : ℕ) → Clear (nth_tree ds k) → Clear (nth_tree (raise_all n ds) k)
  raised_nth n core.none k h = tt
  raised_nth n (core.more d ds) zero h = raise_looks (IsClear flags) (IsClear flags) n d h
  raised_nth n (core.more d ds) (suc k) h = raised_nth n ds k h

  joined_nth : (n : ℕ) (ds : Trees) (k : ℕ) → Clear (nth_tree ds k) → Clear (nth_tree (joined ds (core.Var n)) k)
  joined_nth n core.none zero h = tt
  joined_nth n core.none (suc k) h = tt
  joined_nth n (core.more d ds) zero h = h
  joined_nth n (core.more d ds) (suc k) h = joined_nth n ds k h

  under_clear : (as' : List (List Violation)) (n : ℕ) (ds : Trees) → AreClear as' ds → AreClear as' (under n ds)
  under_clear as' n ds h k i = joined_nth n (raise_all n ds) k (raised_nth n ds k (h k i))

  module _ (p : Span) (as' : List (List Violation)) where
    mutual
      put_clear : (e : Tree) (n : ℕ) (ds : Trees) → AreClear as' ds → reads_put flags p r as' e ≡ [] → Clear (put n ds e)
      put_clear (core.Const v) n ds h k = tt
      put_clear (core.Var j) n ds h k = h j k
      put_clear (core.Not a) n ds h k = put_clear a n ds h k
      put_clear (core.Two o a b) n ds h k = (put_clear a n ds h (append_left (reads_put flags p r as' a) (reads_put flags p r as' b) k), put_clear b n ds h (append_right (reads_put flags p r as' a) (reads_put flags p r as' b) k))
      put_clear (core.If c a b) n ds h k =
          let x = reads_put flags p r as' c in
          let y = reads_put flags p r as' a in
          let z = reads_put flags p r as' b in
          let yz = append_right x (y ++ z) k in
          (put_clear c n ds h (append_left x (y ++ z) k), put_clear a n ds h (append_left y z yz), put_clear b n ds h (append_right y z yz))
      put_clear (core.Param q es) n ds h k = put_all_clear es n ds h k
      put_clear (core.Look g es) n ds h k = (read-clear p g (append_left (read flags p r g) (reads_put_in flags p r as' es) k), put_all_clear es n ds h (append_right (read flags p r g) (reads_put_in flags p r as' es) k))
      put_clear (core.Every j t b) n ds h k = put_clear b (suc n) (under n ds) (under_clear as' n ds h) k
      put_clear (core.New g es) n ds h k = (read-clear p g (append_left (read flags p r g) (reads_put_in flags p r as' es) k), put_all_clear es n ds h (append_right (read flags p r g) (reads_put_in flags p r as' es) k))

      put_all_clear : (es : Trees) (n : ℕ) (ds : Trees) → AreClear as' ds → reads_put_in flags p r as' es ≡ [] → AllClear (put_all n ds es)
      put_all_clear core.none n ds h k = tt
      put_all_clear (core.more e es) n ds h k = (put_clear e n ds h (append_left (reads_put flags p r as' e) (reads_put_in flags p r as' es) k), put_all_clear es n ds h (append_right (reads_put flags p r as' e) (reads_put_in flags p r as' es) k))

  module _ (s : Visible) where
    name_clear : (m : Meaning) → Clear (name_core m)
    name_clear meaning_.Nothing = tt
    name_clear (meaning_.Variable k t) = tt
    name_clear (meaning_.Shared (entity.Declared t)) = tt
    name_clear (meaning_.Shared (entity.Member t k)) = tt
    name_clear (meaning_.Shared (entity.Param t)) = tt
    name_clear (meaning_.Shared (entity.Definition t)) = tt
    name_clear (meaning_.Shared (entity.Function t)) = tt
    name_clear (meaning_.Shared (entity.Level t)) = tt

    expanded_clear : (p : Span) (as' : List (List Violation)) (n : ℕ) (ds : Trees) (o : Option Expr) → AreClear as' ds → expanded_reads flags p r as' o ≡ [] → Clear (expanded n ds o)
    expanded_clear p as' n ds None h k = tt
    expanded_clear p as' n ds (Some e) h k = put_clear p as' (tree e) n ds h k

    call_clear : (p : Span) (as' : List (List Violation)) (n : ℕ) (m : Meaning) (ds : Trees) → AreClear as' ds → (together as' ≡ [] → AllClear ds) → call_reads s flags p r as' m ≡ [] → Clear (call_core s n m ds)
    call_clear p as' n meaning_.Nothing ds h a k = tt
    call_clear p as' n (meaning_.Variable j t) ds h a k = tt
    call_clear p as' n (meaning_.Shared (entity.Declared t)) ds h a k = tt
    call_clear p as' n (meaning_.Shared (entity.Member t j)) ds h a k = tt
    call_clear p as' n (meaning_.Shared (entity.Level t)) ds h a k = tt
    call_clear p as' n (meaning_.Shared (entity.Param t)) ds h a k = a k
    call_clear p as' n (meaning_.Shared (entity.Definition t)) ds h a k = expanded_clear p as' n ds (slice_get s.cores t) h k
    call_clear p as' n (meaning_.Shared (entity.Function g)) ds h a k = (read-clear p g (append_left (read flags p r g) (together as') k), a (append_right (read flags p r g) (together as') k))

    new_clear : (p : Span) (as' : List (List Violation)) (m : Meaning) (ds : Trees) → (together as' ≡ [] → AllClear ds) → quote_reads flags p r as' m ≡ [] → Clear (new_core m ds)
    new_clear p as' meaning_.Nothing ds a k = tt
    new_clear p as' (meaning_.Variable j t) ds a k = tt
    new_clear p as' (meaning_.Shared (entity.Declared t)) ds a k = tt
    new_clear p as' (meaning_.Shared (entity.Member t j)) ds a k = tt
    new_clear p as' (meaning_.Shared (entity.Level t)) ds a k = tt
    new_clear p as' (meaning_.Shared (entity.Param t)) ds a k = tt
    new_clear p as' (meaning_.Shared (entity.Definition t)) ds a k = tt
    new_clear p as' (meaning_.Shared (entity.Function g)) ds a k = (read-clear p g (append_left (read flags p r g) (together as') k), a (append_right (read flags p r g) (together as') k))

    binary_clear : (o : BinOp) (t : Option Ty) (a b : Tree) → Clear a → Clear b → Clear (binary_core o t a b)
    binary_clear bin.Iff t a b h k = (h, k)
    binary_clear bin.Implies t a b h k = (h, k)
    binary_clear bin.Or t a b h k = (h, k)
    binary_clear bin.And t a b h k = (h, k)
    binary_clear bin.Eq t a b h k = (h, k)
    binary_clear bin.Ne t a b h k = (h, k)
    binary_clear bin.Lt t a b h k = (h, k)
    binary_clear bin.Le t a b h k = (h, k)
    binary_clear bin.Gt t a b h k = (k, h)
    binary_clear bin.Ge t a b h k = (k, h)
    binary_clear bin.Add t a b h k = (h, k)
    binary_clear bin.Sub t a b h k = (h, k)
    binary_clear bin.Mul t a b h k = (h, k)

    quant_clear : (u : Bool) (n : ℕ) (t : Ty) (b : Tree) → Clear b → Clear (quant_core u n t b)
    quant_clear true n t b h = h
    quant_clear false n t b h = h

    mutual
      -- an expression without a flagged read looks at those alone that are clear
      pub clear : (l : List Local) (e : Text) → reads s flags r l e ≡ [] → LooksAt (IsClear flags) (IsClear flags) (translation s l e)
      clear l (Name p x) h = name_clear (meaning s l x)
      clear l (Number p n) h = tt
      clear l (Truth p b) h = tt
      clear l (Unknown p) h = tt
      clear l (Bottom p) h = tt
      clear l (Top p) h = tt
      clear l (Call p f ds) h = call_clear p (read_lists s flags r l ds) (length l) (meaning s l f.name) (translations s l ds) (λ k i. nth_clear l ds k i) (λ i. all_clear l ds i) h
      clear l (New p f ds) h = new_clear p (read_lists s flags r l ds) (meaning s l f.name) (translations s l ds) (λ i. all_clear l ds i) h
      clear l (Paren p a) h = clear l a h
      clear l (Not p a) h = clear l a h
      clear l (Binary p o a b) h = binary_clear o (either_type (own s l a) (own s l b)) (translation s l a) (translation s l b) (clear l a (append_left (reads s flags r l a) (reads s flags r l b) h)) (clear l b (append_right (reads s flags r l a) (reads s flags r l b) h))
      clear l (Join p u a b) h = (clear l a (append_left (reads s flags r l a) (reads s flags r l b) h), clear l b (append_right (reads s flags r l a) (reads s flags r l b) h))
      clear l (If p c a b) h =
          let x = reads s flags r l c in
          let y = reads s flags r l a in
          let z = reads s flags r l b in
          let yz = append_right x (y ++ z) h in
          (clear l c (append_left x (y ++ z) h), clear l a (append_left y z yz), clear l b (append_right y z yz))
      clear l (Quant p u f b) h = quant_clear u (length l) (type_of s f.ty) (translation s (with_formal s l f) b) (clear (with_formal s l f) b h)

      nth_clear : (l : List Local) (ds : Texts) (k : ℕ) → nth_list (read_lists s flags r l ds) k ≡ [] → LooksAt (IsClear flags) (IsClear flags) (nth_tree (translations s l ds) k)
      nth_clear l none k h = tt
      nth_clear l (more d ds) zero h = clear l d h
      nth_clear l (more d ds) (suc k) h = nth_clear l ds k h

      all_clear : (l : List Local) (ds : Texts) → together (read_lists s flags r l ds) ≡ [] → LookAt (IsClear flags) (IsClear flags) (translations s l ds)
      all_clear l none h = tt
      all_clear l (more d ds) h = (clear l d (append_left (reads s flags r l d) (together (read_lists s flags r l ds)) h), all_clear l ds (append_right (reads s flags r l d) (together (read_lists s flags r l ds)) h))
