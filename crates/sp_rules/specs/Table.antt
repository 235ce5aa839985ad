-- The rules by which facts follow, as a table: the form of a rule's steps, and what they need.
-- For the closure and for certificates, which both speak of steps.
use Rattle.std.specs.Prelude.{◌==◌, ℕ, zero, suc, ◌-◌, ◌||◌, ◌&&◌, Bool, false, cond, nat_lt, Option, Some, None}
use Rattle.sp_values.specs.declared.value.Op.TheVariants.{And, Or, Same, LevelLe, Lub, Glb}
use Rattle.sp_lattice.specs.Order.{bottom_level, top_level}
use Rattle.sp_rules.specs.Terms.{Terms, count, node_at, arg, are_alike, is_two, is_not, is_if, is_part, is_level, are_below, is_constant_of, computes}
use Rattle.sp_rules.specs.declared.fact.Fact.{Fact}
use Rattle.sp_rules.specs.declared.fact.Fact.TheVariants.{Eq, Le}
use Rattle.sp_rules.specs.declared.fact.Step.{Step}
use Rattle.sp_rules.specs.declared.fact.Lack.{Lack}
use Rattle.sp_rules.specs.declared.fact.Lack.TheVariants.{Number, Form, Fact as Missing}
use Rattle.sp_rules.specs.declared.fact.Needs.{Needs}
use Rattle.sp_rules.specs.declared.fact.Needs.TheVariants.{Nothing, One, Both, Either, Arguments}
use Rattle.sp_rules.specs.declared.fact.Rule.{Rule}
use Rattle.sp_rules.specs.declared.fact.Rule.TheVariants.{K1, K2, K3, K4, K5, K6, K7, K8, K9, K10, K11, K12, K13, K14, K15, K16, K17, K18, K19, K20, K21, K22, K23}

-- the rule of a number
abbrev pub rule_of : ℕ → Option Rule
rule_of n =
    cond (n == 1) (Some K1) (cond (n == 2) (Some K2) (cond (n == 3) (Some K3) (cond (n == 4) (Some K4) (cond (n == 5) (Some K5)
    (cond (n == 6) (Some K6) (cond (n == 7) (Some K7) (cond (n == 8) (Some K8) (cond (n == 9) (Some K9) (cond (n == 10) (Some K10)
    (cond (n == 11) (Some K11) (cond (n == 12) (Some K12) (cond (n == 13) (Some K13) (cond (n == 14) (Some K14) (cond (n == 15) (Some K15)
    (cond (n == 16) (Some K16) (cond (n == 17) (Some K17) (cond (n == 18) (Some K18) (cond (n == 19) (Some K19) (cond (n == 20) (Some K20)
    (cond (n == 21) (Some K21) (cond (n == 22) (Some K22) (cond (n == 23) (Some K23) None))))))))))))))))))))))

-- neither p nor q is used
abbrev pub none : ℕ → ℕ → Bool
none p q = (p == 0) && (q == 0)

-- the first column: whether a step to this fact, with this p and q, has the rule's form
abbrev pub fits : Terms → Rule → Fact → ℕ → ℕ → Bool
fits ts K1 (Eq i j) p q = none p q && (i == j)
fits ts K2 (Eq i j) p q = none p q
fits ts K3 (Eq i j) p q = q == 0
fits ts K4 (Eq i j) p q = none p q && are_alike (node_at ts i) (node_at ts j)
fits ts K5 (Eq i j) p q = (q == 0) && is_two Same (node_at ts p) && (arg ts p 0 == i) && (arg ts p 1 == j)
fits ts K6 (Eq i j) p q = none p q && (j == 0) && is_two Same (node_at ts i)
fits ts K7 (Le i j) p q = none p q && (i == j) && is_level ts i
fits ts K8 (Le i j) p q = q == 0
fits ts K9 (Le i j) p q = none p q && is_level ts i && is_level ts j
fits ts K10 (Eq i j) p q = none p q
fits ts K11 (Le i j) p q = none p q && are_below ts.lattice (node_at ts i).head (node_at ts j).head
fits ts K12 (Le i j) p q =
    none p q && is_level ts i && is_level ts j
    && (is_constant_of (bottom_level ts.lattice) (node_at ts i).head || is_constant_of (top_level ts.lattice) (node_at ts j).head)
fits ts K13 (Le i j) p q = none p q && is_two Lub (node_at ts j) && is_part i (node_at ts j)
fits ts K14 (Le i j) p q = none p q && is_two Lub (node_at ts i)
fits ts K15 (Le i j) p q = none p q && is_two Glb (node_at ts i) && is_part j (node_at ts i)
fits ts K16 (Le i j) p q = none p q && is_two Glb (node_at ts j)
fits ts K17 (Le i j) p q = (q == 0) && is_two LevelLe (node_at ts p) && (arg ts p 0 == i) && (arg ts p 1 == j)
fits ts K18 (Eq i j) p q = none p q && (j == 0) && is_two LevelLe (node_at ts i)
fits ts K19 (Eq i j) p q = (q == 0) && nat_lt j 2 && cond (p == 0) (is_not (node_at ts i)) (is_not (node_at ts p) && (arg ts p 0 == i))
fits ts K20 (Eq i j) p q = (q == 0) && nat_lt j 2 && cond (p == 0) (is_two And (node_at ts i)) (is_two And (node_at ts p) && is_part i (node_at ts p))
fits ts K21 (Eq i j) p q = (q == 0) && nat_lt j 2 && cond (p == 0) (is_two Or (node_at ts i)) (is_two Or (node_at ts p) && is_part i (node_at ts p))
fits ts K22 (Eq i j) p q = none p q && is_if (node_at ts i) && ((arg ts i 1 == j) || (arg ts i 2 == j))
fits ts K23 (Eq i j) p q = ((node_at ts i).count == 2) && computes (node_at ts i).head (node_at ts p).head (node_at ts q).head (node_at ts j).head
fits ts _ _ p q = false

-- the other argument of p than i
abbrev pub other : Terms → ℕ → ℕ → ℕ
other ts p i = cond (arg ts p 0 == i) (arg ts p 1) (arg ts p 0)

-- the second column: what a step of this form needs
abbrev pub premises : Terms → Rule → Fact → ℕ → ℕ → Needs
premises ts K2 (Eq i j) p q = One (Eq j i)
premises ts K3 (Eq i j) p q = Both (Eq i p) (Eq p j)
premises ts K4 (Eq i j) p q = Arguments i j
premises ts K5 (Eq i j) p q = One (Eq p 0)
premises ts K6 (Eq i j) p q = One (Eq (arg ts i 0) (arg ts i 1))
premises ts K8 (Le i j) p q = Both (Le i p) (Le p j)
premises ts K9 (Le i j) p q = One (Eq i j)
premises ts K10 (Eq i j) p q = Both (Le i j) (Le j i)
premises ts K14 (Le i j) p q = Both (Le (arg ts i 0) j) (Le (arg ts i 1) j)
premises ts K16 (Le i j) p q = Both (Le i (arg ts j 0)) (Le i (arg ts j 1))
premises ts K17 (Le i j) p q = One (Eq p 0)
premises ts K18 (Eq i j) p q = One (Le (arg ts i 0) (arg ts i 1))
premises ts K19 (Eq i j) p q = One (Eq (cond (p == 0) (arg ts i 0) p) (1 - j))
premises ts K20 (Eq i j) p q =
    cond (p == 0) (cond (j == 0) (Both (Eq (arg ts i 0) 0) (Eq (arg ts i 1) 0)) (Either (Eq (arg ts i 0) 1) (Eq (arg ts i 1) 1)))
    (cond (j == 0) (One (Eq p 0)) (Both (Eq p 1) (Eq (other ts p i) 0)))
premises ts K21 (Eq i j) p q =
    cond (p == 0) (cond (j == 0) (Either (Eq (arg ts i 0) 0) (Eq (arg ts i 1) 0)) (Both (Eq (arg ts i 0) 1) (Eq (arg ts i 1) 1)))
    (cond (j == 0) (Both (Eq p 0) (Eq (other ts p i) 1)) (One (Eq p 1)))
premises ts K22 (Eq i j) p q =
    cond ((arg ts i 1 == j) && (arg ts i 2 == j)) (Either (Eq (arg ts i 0) 0) (Eq (arg ts i 0) 1)) (One (Eq (arg ts i 0) (cond (arg ts i 1 == j) 0 1)))
premises ts K23 (Eq i j) p q = Both (Eq (arg ts i 0) p) (Eq (arg ts i 1) q)
premises ts _ _ p q = Nothing

-- the fact's numbers are terms
abbrev pub in_range : ℕ → Fact → Bool
in_range n (Eq i j) = nat_lt i n && nat_lt j n
in_range n (Le i j) = nat_lt i n && nat_lt j n

-- all four numbers of a step are terms
abbrev pub are_terms : Terms → Step → Bool
are_terms ts s = in_range (count ts) s.fact && nat_lt s.p (count ts) && nat_lt s.q (count ts)

abbrev pub fits_by : Terms → Step → Option Rule → Bool
fits_by ts s None = false
fits_by ts s (Some r) = fits ts r s.fact s.p s.q

abbrev pub premises_by : Terms → Step → Option Rule → Needs
premises_by ts s None = Nothing
premises_by ts s (Some r) = premises ts r s.fact s.p s.q

-- a step of the form of its rule
abbrev pub is_formed : Terms → Step → Bool
is_formed ts s = fits_by ts s (rule_of s.rule)

-- what a step needs
abbrev pub needs : Terms → Step → Needs
needs ts s = premises_by ts s (rule_of s.rule)

-- the first of the first m arguments whose equality isn't there
abbrev pub first_apart : Terms → (Fact → Bool) → ℕ → ℕ → ℕ → Option Fact
first_apart ts h i j zero = None
first_apart ts h i j (suc m) = elim (first_apart ts h i j m) [ Some f ↦ Some f | None ↦ cond (h (Eq (arg ts i m) (arg ts j m))) None (Some (Eq (arg ts i m) (arg ts j m))) ]

-- the first need that isn't there
abbrev pub unmet : Terms → (Fact → Bool) → Needs → Option Fact
unmet ts h Nothing = None
unmet ts h (One f) = cond (h f) None (Some f)
unmet ts h (Both f g) = cond (h f) (cond (h g) None (Some g)) (Some f)
unmet ts h (Either f g) = cond (h f || h g) None (Some f)
unmet ts h (Arguments i j) = first_apart ts h i j (node_at ts i).count

abbrev pub lack_of_need : Option Fact → Option Lack
lack_of_need None = None
lack_of_need (Some f) = Some (Missing f)

-- what a step lacks over the facts that are there, or nothing where its fact follows from them
unfoldable pub lack_of : Terms → (Fact → Bool) → Step → Option Lack
lack_of ts h s = cond (are_terms ts s) (cond (is_formed ts s) (lack_of_need (unmet ts h (needs ts s))) (Some Form)) (Some Number)
