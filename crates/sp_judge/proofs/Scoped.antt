-- Translations keep to their variables, and lists of them.
use Rattle.std.proofs.Common.{◌≡◌, refl, sym, ◌∙◌, ap, subst, arith, ℕ, zero, suc, ◌+◌, ◌≤◌, ◌<◌, Bool, true, false, List, [], ◌∷◌, ◌++◌, Option, Some, None, map, length, length-append, take, get_or}
use Rattle.std.specs.Prelude.{slice_get, if◌then◌else◌}
use Rattle.std.specs.Str.{bytes_eq}
use Rattle.std.proofs.lemmas.List.{take_more}
use Rattle.std.proofs.lemmas.Option.{get_or_from_slice_get, slice_get_within}
use Rattle.sp_text.specs.declared.limits.TheConstants.{MOST_QUANTIFIERS}
use Rattle.sp_core.specs.Measures.{quantifiers}
use Rattle.sp_values.specs.declared.value.Ty.{Ty}
use Rattle.sp_tree.specs.declared.expr.BinOp.{BinOp}
use Rattle.sp_tree.specs.declared.expr.BinOp.TheVariants as bin
use Rattle.sp_tree.specs.declared.expr.ExprTree.{ExprTree}
use Rattle.sp_tree.specs.declared.names.FormalTree.{FormalTree}
use Rattle.sp_core.specs.declared.expr.Expr.{Expr}
use Rattle.sp_core.specs.Tree.{Tree, Trees, tree}
use Rattle.sp_core.specs.Tree as core
use Rattle.sp_expand.specs.Expansion.{IsScoped, AreScoped, joined}
use Rattle.sp_expand.proofs.Scoped.{scoped_put}
use Rattle.sp_plain.specs.Text.{Text, Texts, Name, Number, Truth, Unknown, Bottom, Top, Call, New, Paren, Not, Binary, Join, If, Quant, none, more, text, texts_of, weight, weight_in}
use Rattle.sp_naming.specs.declared.declaration.Entity.{Entity}
use Rattle.sp_naming.specs.declared.declaration.Entity.TheVariants as entity
use Rattle.sp_judge.specs.Visible.{Visible, see}
use Rattle.sp_scopes.specs.declared.heads.Local.{Local}
use Rattle.sp_judge.specs.declared.scope.Meaning.{Meaning}
use Rattle.sp_judge.specs.declared.scope.Meaning.TheVariants as meaning_
use Rattle.sp_judge.specs.Names.{meaning, meaning_from, shared_of, type_of, with_formal}
use Rattle.sp_judge.specs.Translation.{own, either_type, name_core, expanded, call_core, new_core, binary_core, quant_core, translation, translations, binders, binders_in, AreFine}

entity_scoped : (m : ℕ) (e : Entity) → IsScoped m (name_core (meaning_.Shared e))
entity_scoped m (entity.Declared t) = tt
entity_scoped m (entity.Member t k) = tt
entity_scoped m (entity.Param t) = tt
entity_scoped m (entity.Definition t) = tt
entity_scoped m (entity.Function t) = tt
entity_scoped m (entity.Level t) = tt

either_scoped : (m : ℕ) (b : Bool) (x y : Meaning) → IsScoped m (name_core x) → IsScoped m (name_core y) → IsScoped m (name_core (if b then x else y))
either_scoped m true x y h k = h
either_scoped m false x y h k = k

shared_scoped : (m : ℕ) (o : Option Entity) → IsScoped m (name_core (shared_of o))
shared_scoped m None = tt
shared_scoped m (Some e) = entity_scoped m e

name_scoped : (s : Visible) (m n : ℕ) (ls : List Local) (x : List ℕ) → n + length ls ≤ m → IsScoped m (name_core (meaning_from s n ls x))
name_scoped s m n [] x le = shared_scoped m (see s x)
name_scoped s m n (l ∷ ls) x le = either_scoped m (bytes_eq l.name x) (meaning_.Variable n l.ty) (meaning_from s (suc n) ls x) (omega (arith, le)) (name_scoped s m (suc n) ls x (omega (arith, le)))

expanded_scoped : (n : ℕ) (ds : Trees) (o : Option Expr) → AreScoped n ds → IsScoped n (expanded n ds o)
expanded_scoped n ds None h = tt
expanded_scoped n ds (Some e) h = scoped_put (tree e) n ds h

call_scoped : (s : Visible) (n : ℕ) (m : Meaning) (ds : Trees) → AreScoped n ds → IsScoped n (call_core s n m ds)
call_scoped s n meaning_.Nothing ds h = tt
call_scoped s n (meaning_.Variable k t) ds h = tt
call_scoped s n (meaning_.Shared (entity.Declared t)) ds h = tt
call_scoped s n (meaning_.Shared (entity.Member t k)) ds h = tt
call_scoped s n (meaning_.Shared (entity.Param t)) ds h = h
call_scoped s n (meaning_.Shared (entity.Definition d)) ds h = expanded_scoped n ds (slice_get s.cores d) h
call_scoped s n (meaning_.Shared (entity.Function t)) ds h = h
call_scoped s n (meaning_.Shared (entity.Level t)) ds h = tt

new_scoped : (n : ℕ) (m : Meaning) (ds : Trees) → AreScoped n ds → IsScoped n (new_core m ds)
new_scoped n meaning_.Nothing ds h = tt
new_scoped n (meaning_.Variable k t) ds h = tt
new_scoped n (meaning_.Shared (entity.Declared t)) ds h = tt
new_scoped n (meaning_.Shared (entity.Member t k)) ds h = tt
new_scoped n (meaning_.Shared (entity.Param t)) ds h = tt
new_scoped n (meaning_.Shared (entity.Definition d)) ds h = tt
new_scoped n (meaning_.Shared (entity.Function t)) ds h = h
new_scoped n (meaning_.Shared (entity.Level t)) ds h = tt

binary_scoped : (n : ℕ) (o : BinOp) (t : Option Ty) (a b : Tree) → IsScoped n a → IsScoped n b → IsScoped n (binary_core o t a b)
binary_scoped n bin.Iff t a b h k = (h, k)
binary_scoped n bin.Implies t a b h k = (h, k)
binary_scoped n bin.Or t a b h k = (h, k)
binary_scoped n bin.And t a b h k = (h, k)
binary_scoped n bin.Eq t a b h k = (h, k)
binary_scoped n bin.Ne t a b h k = (h, k)
binary_scoped n bin.Lt t a b h k = (h, k)
binary_scoped n bin.Le t a b h k = (h, k)
binary_scoped n bin.Gt t a b h k = (k, h)
binary_scoped n bin.Ge t a b h k = (k, h)
binary_scoped n bin.Add t a b h k = (h, k)
binary_scoped n bin.Sub t a b h k = (h, k)
binary_scoped n bin.Mul t a b h k = (h, k)

quant_scoped : (u : Bool) (n : ℕ) (t : Ty) (b : Tree) → IsScoped (suc n) b → IsScoped n (quant_core u n t b)
quant_scoped true n t b h = (refl, h)
quant_scoped false n t b h = (refl, h)

pub length-with : (s : Visible) (l : List Local) (f : FormalTree) → length (with_formal s l f) ≡ suc (length l)
length-with s l f = omega (arith, length-append l (record { name = f.name.name; ty = type_of s f.ty } ∷ []))

mutual
  pub translation_scoped : (s : Visible) (l : List Local) (e : Text) → IsScoped (length l) (translation s l e)
  translation_scoped s l (Name p x) = name_scoped s (length l) 0 l x (omega arith)
  translation_scoped s l (Number p n) = tt
  translation_scoped s l (Truth p b) = tt
  translation_scoped s l (Unknown p) = tt
  translation_scoped s l (Bottom p) = tt
  translation_scoped s l (Top p) = tt
  translation_scoped s l (Call p f ds) = call_scoped s (length l) (meaning s l f.name) (translations s l ds) (translations_scoped s l ds)
  translation_scoped s l (New p f ds) = new_scoped (length l) (meaning s l f.name) (translations s l ds) (translations_scoped s l ds)
  translation_scoped s l (Paren p a) = translation_scoped s l a
  translation_scoped s l (Not p a) = translation_scoped s l a
  translation_scoped s l (Binary p o a b) = binary_scoped (length l) o (either_type (own s l a) (own s l b)) (translation s l a) (translation s l b) (translation_scoped s l a) (translation_scoped s l b)
  translation_scoped s l (Join p u a b) = (translation_scoped s l a, translation_scoped s l b)
  translation_scoped s l (If p c a b) = (translation_scoped s l c, translation_scoped s l a, translation_scoped s l b)
  translation_scoped s l (Quant p u f b) = quant_scoped u (length l) (type_of s f.ty) (translation s (with_formal s l f) b) (subst (λ n. IsScoped n (translation s (with_formal s l f) b)) (length-with s l f) (translation_scoped s (with_formal s l f) b))

  pub translations_scoped : (s : Visible) (l : List Local) (ds : Texts) → AreScoped (length l) (translations s l ds)
  translations_scoped s l none = tt
  translations_scoped s l (more d ds) = (translation_scoped s l d, translations_scoped s l ds)

-- lists of arguments
pub weight-part : (ds : List ExprTree) (k : ℕ) (d : ExprTree) → k < length ds → d ≡ get_or ds k d → weight (text d) ≤ weight_in (texts_of (map text ds))
weight-part [] k d l e = absurd (omega arith)
weight-part (a ∷ ds) zero d l e = let q : weight (text d) ≡ weight (text a) = ap (λ x. weight (text x)) e in omega arith
weight-part (a ∷ ds) (suc k) d l e = let q = weight-part ds k d (omega arith) e in omega (arith, q)

pub binders-part : (ds : List ExprTree) (k : ℕ) (d : ExprTree) → k < length ds → d ≡ get_or ds k d → binders (text d) ≤ binders_in (texts_of (map text ds))
binders-part [] k d l e = absurd (omega arith)
binders-part (a ∷ ds) zero d l e = let q : binders (text d) ≡ binders (text a) = ap (λ x. binders (text x)) e in omega arith
binders-part (a ∷ ds) (suc k) d l e = let q = binders-part ds k d (omega arith) e in omega (arith, q)

translations-append : (s : Visible) (l : List Local) (ds : List ExprTree) (d : ExprTree) → joined (translations s l (texts_of (map text ds))) (translation s l (text d)) ≡ translations s l (texts_of (map text (ds ++ d ∷ [])))
translations-append s l [] d = refl
translations-append s l (a ∷ ds) d = ap (core.more (translation s l (text a))) (translations-append s l ds d)

pub translations-next : (s : Visible) (l : List Local) (ds : List ExprTree) (k : ℕ) (d : ExprTree) → k < length ds → d ≡ get_or ds k d → joined (translations s l (texts_of (map text (take k ds)))) (translation s l (text d)) ≡ translations s l (texts_of (map text (take (k + 1) ds)))
translations-next s l ds k d h e = translations-append s l (take k ds) d ∙ ap (λ z. translations s l (texts_of (map text z))) (sym (take_more ds k d h ∙ ap (λ x. take k ds ++ x ∷ []) (sym e)))

pub fine_at : (cores : List Expr) (k : ℕ) (e : Expr) → AreFine cores → slice_get cores k ≡ Some e → quantifiers (tree e) ≤ MOST_QUANTIFIERS
fine_at cores k e h i = subst (λ x. quantifiers (tree x) ≤ MOST_QUANTIFIERS) (get_or_from_slice_get cores k e e i) (h k e (slice_get_within cores k e i))

pub few_is : MOST_QUANTIFIERS ≡ 3
few_is = refl
