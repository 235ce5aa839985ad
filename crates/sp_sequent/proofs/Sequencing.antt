-- The numbers of a formula's parts, once its hypotheses and its goal are placed.
use Rattle.std.proofs.Common.{◌≡◌, refl, sym, ◌∙◌, ap, subst, arith, ℕ, zero, suc, ◌+◌, ◌<◌, ◌≤◌, Bool, true, false, List, [], ◌∷◌, ◌++◌, length, map, take}
use Rattle.std.specs.Prelude.{All, Some, slice_get, if◌then◌else◌}
use Rattle.std.proofs.lemmas.List.{length-map}
use Rattle.std.proofs.lemmas.List.Elements.{All-cons, All-head, All-tail}
use Rattle.std.proofs.lemmas.Option.{none-some, same_Some}
use Rattle.sp_values.specs.declared.value.Ty.{Ty}
use Rattle.sp_values.specs.declared.value.Value.TheVariants as value
use Rattle.sp_pool.specs.declared.node.Node.{Node}
use Rattle.sp_pool.specs.declared.node.TermId.{TermId}
use Rattle.sp_pool.specs.Nodes.{IsPool}
use Rattle.sp_core.specs.Parts.{Parts, signature}
use Rattle.sp_core.specs.Tree.{Tree, Const}
use Rattle.sp_core.specs.Typing.{Signature}
use Rattle.sp_rules.specs.Questions.{numbers}
use Rattle.sp_sequent.specs.Claims.{Claim, numbers_of, terms_in}
use Rattle.sp_sequent.specs.Numbers.{HasEach, IsInserted, Numbers, Reached, nodes_of, parts}
use Rattle.sp_sequent.specs.OwnTypes.{atoms_from, is_atom, is_level}
use Rattle.sp_sequent.specs.Sequents.{AreTerms, TermNumbers}
use Rattle.sp_sequent.specs.Subterms.{ends, number, truths}
use Rattle.sp_sequent.proofs.Inserting.{all_terms}
use Rattle.sp_sequent.proofs.Numbering.{has_each_more, number_within, numbers_more, with_all_grows}

-- a pool of two nodes holds TRUE and FALSE
pub start_nodes : (held : List Node) → IsPool held → length held ≡ 2 → held ≡ nodes_of truths
start_nodes [] is two = absurd (omega (arith, two))
start_nodes (a ∷ []) is two = absurd (omega (arith, two))
start_nodes (a ∷ b ∷ []) is two = let x = same_Some a _ is.true_first in let y = same_Some b _ is.false_second in λ i. x i ∷ y i ∷ []
start_nodes (a ∷ b ∷ c ∷ held) is two = absurd (omega (arith, two))

-- so it does when all further ones are given up
pub released : (held new : List Node) → IsPool held → new ≡ take 2 held → new ≡ nodes_of truths
released [] new is e = absurd (none-some _ is.true_first)
released (a ∷ []) new is e = absurd (none-some _ is.false_second)
released (a ∷ b ∷ held) new is e = let x = same_Some a _ is.true_first in let y = same_Some b _ is.false_second in e ∙ (λ i. x i ∷ y i ∷ [])

-- numbers of expressions that stand in the list are below its length
each_within : (us ds : List Tree) → HasEach us ds → All (λ t. t < length us) (map (number us) ds)
each_within us [] h = λ k d l. absurd (omega (arith, l))
each_within us (d ∷ ds) h = All-cons (λ t. t < length us) (number us d) (map (number us) ds) (number_within us d h.0) (each_within us ds h.1)

atoms_within : (sg : Signature) (xs : List Ty) (k : ℕ) (us : List Tree) → All (λ t. t < k + length us) (atoms_from sg xs k us)
atoms_within sg xs k [] = λ i d l. absurd (omega (arith, l))
atoms_within sg xs k (u ∷ us) = by (is_atom sg xs u) (subst (λ n. All (λ t. t < n) (atoms_from sg xs (k + 1) us)) (omega arith) (atoms_within sg xs (k + 1) us))
  where
    by : (b : Bool) → All (λ t. t < k + suc (length us)) (atoms_from sg xs (k + 1) us) → All (λ t. t < k + suc (length us)) (if b then k ∷ atoms_from sg xs (k + 1) us else atoms_from sg xs (k + 1) us)
    by true h = All-cons (λ t. t < k + suc (length us)) k (atoms_from sg xs (k + 1) us) (omega arith) h
    by false h = h

-- the same of the numbers in terms
pub numbers_below : (ts us : List TermId) (m n : ℕ) → ts ≡ us → m ≡ n → All (λ t. t < n) (numbers us) → All (λ t. t.0 < m) ts
numbers_below ts us m n same equal h = subst (All (λ t. t.0 < m)) (sym same) (go us (subst (λ n. All (λ t. t < n) (numbers us)) (sym equal) h))
  where
    go : (us : List TermId) → All (λ t. t < m) (numbers us) → All (λ t. t.0 < m) us
    go [] h = λ k d l. absurd (omega (arith, l))
    go (u ∷ us) h = All-cons (λ t. t.0 < m) u us (All-head (λ t. t < m) u.0 (numbers us) h) (go us (All-tail (λ t. t < m) u.0 (numbers us) h))

module _ (p : Parts) (c : Claim) (before ts us : List Tree) (start : before ≡ truths) (held held' : List Node) (ks : List ℕ) (k : ℕ) (reached : Reached before held ts ks c.hypotheses) (placed : IsInserted ts c.goal held' us k) where
  pub terms_are : us ≡ terms_in c
  terms_are = all_terms before start c.hypotheses c.goal ts us reached.grown placed.grown

  pub pool_is : held' ≡ nodes_of (terms_in c)
  pool_is = placed.numbers.all ∙ ap nodes_of terms_are

  longer : us ≡ ts ++ (with_all_grows ts (ends c.goal)).0
  longer = placed.grown ∙ (with_all_grows ts (ends c.goal)).1

  has : HasEach us c.hypotheses
  has = subst (λ x. HasEach x c.hypotheses) (sym longer) (has_each_more ts (with_all_grows ts (ends c.goal)).0 c.hypotheses reached.has)

  hypotheses_are : ks ≡ map (number us) c.hypotheses
  hypotheses_are = reached.args ∙ sym (numbers_more ts (with_all_grows ts (ends c.goal)).0 c.hypotheses reached.has) ∙ ap (λ x. map (number x) c.hypotheses) (sym longer)

  module _ (as' : List ℕ) (ls : List Bool) (atoms : as' ≡ atoms_from (signature p) c.types 0 us) (levels : ls ≡ map (is_level (signature p) c.types) us) where
    abbrev made : TermNumbers
    made = record { hypotheses = ks; goal = k; atoms = as'; levels = ls }

    pub numbers_are : made ≡ numbers_of p c
    numbers_are =
        let h = hypotheses_are ∙ ap (λ x. map (number x) c.hypotheses) terms_are in
        let g = placed.number ∙ ap (λ x. number x c.goal) terms_are in
        let a = atoms ∙ ap (atoms_from (signature p) c.types 0) terms_are in
        let l = levels ∙ ap (map (is_level (signature p) c.types)) terms_are in
        λ i. record { hypotheses = h i; goal = g i; atoms = a i; levels = l i }

    count : length us ≡ length ls
    count = sym (ap length levels ∙ length-map us (is_level (signature p) c.types))

    pub are_terms : AreTerms made
    are_terms = record {
      hypotheses = subst (λ n. All (λ t. t < n) ks) count (subst (All (λ t. t < length us)) (sym hypotheses_are) (each_within us c.hypotheses has));
      goal = omega (arith, placed.number, number_within us c.goal placed.has, count);
      atoms = subst (λ n. All (λ t. t < n) as') count (subst (All (λ t. t < length us)) (sym atoms) (subst (λ n. All (λ t. t < n) (atoms_from (signature p) c.types 0 us)) (let e : 0 + length us ≡ length us = omega arith in e) (atoms_within (signature p) c.types 0 us)));
    }
