-- The first fault of a tree, part by part.
use Rattle.std.proofs.Common.{◌≡◌, ℕ, ◌+◌, ◌<◌, ◌≤◌, ◌||◌, ◌&&◌, not, Bool, true, false, cond, ltb, List, length, Option, Some, None, refl, sym, ap, ◌∙◌, arith}
use Rattle.std.specs.Prelude.{slice_index}
use Rattle.std.specs.Option.{is_some}
use Rattle.std.proofs.lemmas.Bool.Decides.{Decides-ltb, nat_tests}
use Rattle.sp_bits.specs.Table.{Bits, IsTable}
use Rattle.sp_bits.proofs.Same.{one_table}
use Rattle.sp_rules.specs.declared.fact.Fact.{Fact}
use Rattle.sp_rules.specs.declared.fact.Fact.TheVariants.{Eq, Le}
use Rattle.sp_rules.specs.declared.fact.Step.{Step}
use Rattle.sp_rules.specs.Facts.{holds_in}
use Rattle.sp_rules.specs.Facts.{is_fact}
use Rattle.sp_rules.proofs.FactLemmas.{is_fact-true}
use Rattle.sp_cert.specs.declared.cert.CertFault.{CertFault}
use Rattle.sp_cert.specs.declared.cert.CertFault.TheVariants.{NotAnAtom, TooDeep, NoClash}
use Rattle.sp_cert.specs.Tree.{Tree, Split, Leaf, Steps}
use Rattle.sp_cert.specs.Checks.{Judge, Facts, next, with_steps, count_steps, count_all, count_nodes, bad_step, ends_in_clash, leaf_fault, first_of, unless_deep, fault}
use Rattle.sp_rules.specs.Facts.{has_truth, with_fact}

-- tables that hold the same facts are the same
pub same_tables : (eq le eqn len : Bits) → IsTable eq → IsTable le → IsTable eqn → IsTable len → eqn.count ≡ eq.count → len.count ≡ le.count → ((f : Fact) → holds_in eqn len f ≡ holds_in eq le f) → (eqn ≡ eq) × (len ≡ le)
same_tables eq le eqn len a b c d m n same = (one_table eqn eq c a m (λ i j. same (Eq i j)), one_table len le d b n (λ i j. same (Le i j)))

pub none_fault : (o : Option CertFault) → is_some o ≡ false → o ≡ None
none_fault None e = refl
none_fault (Some f) e = cc

pub first_some : (a b : Option CertFault) → is_some a ≡ true → first_of a b ≡ a
first_some None b e = absurd (cc)
first_some (Some f) b e = refl

pub first_none : (a b : Option CertFault) → a ≡ None → first_of a b ≡ b
first_none None b e = refl
first_none (Some f) b e = absurd (cc)

-- a fact put in that wasn't there, and taken out again
pub taken_out : (fact : Fact) (h h1 h2 : Facts) → h fact ≡ false → ((f : Fact) → h1 f ≡ (is_fact fact f || h f)) → ((f : Fact) → h2 f ≡ (not (is_fact fact f) && h1 f)) → (f : Fact) → h2 f ≡ h f
taken_out fact h h1 h2 absent put out f = out f ∙ ap (λ b. not (is_fact fact f) && b) (put f) ∙ by (is_fact fact f) (h f) (λ e. ap h (sym (is_fact-true fact f e)) ∙ absent)
  where
    by : (t b : Bool) → (t ≡ true → b ≡ false) → (not t && (t || b)) ≡ b
    by true b e = sym (e refl)
    by false b e = refl

abbrev none : Option CertFault
none = None

abbrev too_deep : ℕ → Option CertFault
too_deep n = Some (TooDeep n)

pub is_deep : (depth node : ℕ) (o : Option CertFault) → 20 < depth → unless_deep depth node o ≡ Some (TooDeep node)
is_deep depth node o l = ap (λ b. cond b (too_deep node) o) ((Decides-ltb 20 depth).1 l)

not_deep : (depth node : ℕ) (o : Option CertFault) → depth ≤ 20 → unless_deep depth node o ≡ o
not_deep depth node o l = let e : ltb 20 depth ≡ false = grind (arith, nat_tests) in ap (λ b. cond b (too_deep node) o) e

module _ (j : Judge) where
  pub tree_deep : (t : Tree) (h : Facts) (depth nodes n : ℕ) → 20 < depth → fault j t h depth nodes n ≡ Some (TooDeep (next nodes))
  tree_deep (Leaf ss) h depth nodes n l = is_deep depth (next nodes) (leaf_fault j h (next nodes) n ss) l
  tree_deep (Split a t f) h depth nodes n l = is_deep depth (next nodes) _ l
  tree_deep (Steps ss t) h depth nodes n l = is_deep depth (next nodes) _ l

  abbrev pub behind_steps : List Step → Tree → Facts → ℕ → ℕ → ℕ → Option CertFault
  behind_steps ss t h depth nodes n = fault j t (with_steps ss h) depth (next nodes) (count_steps n ss)

  pub steps_is : (ss : List Step) (t : Tree) (h : Facts) (depth nodes n : ℕ) → depth ≤ 20 → fault j (Steps ss t) h depth nodes n ≡ first_of (bad_step j h n ss) (behind_steps ss t h depth nodes n)
  steps_is ss t h depth nodes n l = not_deep depth (next nodes) (first_of (bad_step j h n ss) (behind_steps ss t h depth nodes n)) l

  pub leaf_is : (ss : List Step) (h : Facts) (depth nodes n : ℕ) → depth ≤ 20 → fault j (Leaf ss) h depth nodes n ≡ leaf_fault j h (next nodes) n ss
  leaf_is ss h depth nodes n l = not_deep depth (next nodes) (leaf_fault j h (next nodes) n ss) l

  abbrev pub true_branch : ℕ → Tree → Facts → ℕ → ℕ → ℕ → Option CertFault
  true_branch a t h depth nodes n = fault j t (with_fact (has_truth (slice_index j.atoms a) true) h) (depth + 1) (next nodes) n

  abbrev pub false_branch : ℕ → Tree → Tree → Facts → ℕ → ℕ → ℕ → Option CertFault
  false_branch a t f h depth nodes n = fault j f (with_fact (has_truth (slice_index j.atoms a) false) h) (depth + 1) (count_nodes (next nodes) t) (count_all n t)

  pub split_is : (a : ℕ) (t f : Tree) (h : Facts) (depth nodes n : ℕ) → depth ≤ 20 → a < length j.atoms → fault j (Split a t f) h depth nodes n ≡ first_of (true_branch a t h depth nodes n) (false_branch a t f h depth nodes n)
  split_is a t f h depth nodes n l k =
      let both = first_of (true_branch a t h depth nodes n) (false_branch a t f h depth nodes n) in
      not_deep depth (next nodes) (cond (ltb a (length j.atoms)) both (Some (NotAnAtom (next nodes)))) l ∙ ap (λ b. cond b both (Some (NotAnAtom (next nodes)))) ((Decides-ltb a (length j.atoms)).1 k)

  pub no_atom : (a : ℕ) (t f : Tree) (h : Facts) (depth nodes n : ℕ) → depth ≤ 20 → length j.atoms ≤ a → fault j (Split a t f) h depth nodes n ≡ Some (NotAnAtom (next nodes))
  no_atom a t f h depth nodes n l k =
      let both = first_of (true_branch a t h depth nodes n) (false_branch a t f h depth nodes n) in
      let e : ltb a (length j.atoms) ≡ false = grind (arith, nat_tests) in
      not_deep depth (next nodes) (cond (ltb a (length j.atoms)) both (Some (NotAnAtom (next nodes)))) l ∙ ap (λ b. cond b both (Some (NotAnAtom (next nodes)))) e

abbrev no_clash : ℕ → Option CertFault
no_clash node = Some (NoClash node)

pub leaf_by : (j : Judge) (h : Facts) (node n : ℕ) (ss : List Step) (c : Bool) → bad_step j h n ss ≡ None → c ≡ ends_in_clash j false ss → leaf_fault j h node n ss ≡ cond c None (no_clash node)
leaf_by j h node n ss c e f = ap (λ o. first_of o (cond (ends_in_clash j false ss) none (no_clash node))) e ∙ ap (λ b. cond b none (no_clash node)) (sym f)
