-- The levels are the interface's own: no module declares one. So what its lattice declares is the same with and without modules, and
-- where names and headers break nothing, the lattice by itself breaks nothing.
use Rattle.std.proofs.Common.{◌≡◌, refl, sym, ◌∙◌, ap, subst, ℕ, List, [], ◌∷◌, ◌++◌, Bool, true, false, Option, Some, None, cond, map}
use Rattle.std.specs.List.{find, flat_map}
use Rattle.std.specs.Str.{bytes_eq}
use Rattle.std.proofs.lemmas.Grind.{flat_map-append}
use Rattle.std.proofs.lemmas.List.{append-nil}
use Rattle.sp_text.specs.declared.fault.Rule.TheVariants as rule
use Rattle.sp_text.specs.declared.fault.Span.{Span}
use Rattle.sp_text.specs.Violations.{breaks, in_file}
use Rattle.sp_tree.specs.declared.interface.InterfaceTree.{InterfaceTree}
use Rattle.sp_tree.specs.declared.interface.LatticeTree.{LatticeTree}
use Rattle.sp_tree.specs.declared.interface.LatticeTree.TheVariants as lattice
use Rattle.sp_tree.specs.declared.module.Module.{Module}
use Rattle.sp_tree.specs.declared.module.TypeDecl.{TypeDecl}
use Rattle.sp_tree.specs.declared.names.Ident.{Ident}
use Rattle.sp_naming.specs.declared.declaration.Declaration.{Declaration}
use Rattle.sp_naming.specs.declared.declaration.Entity.{Entity}
use Rattle.sp_naming.specs.declared.declaration.Entity.TheVariants as entity
use Rattle.sp_naming.specs.declared.listing.Counts.{Counts}
use Rattle.sp_naming.specs.Declarations.{counts_after, declarations, definition_declaration, function_declaration, member, members, module_declarations, modules_declarations, no_counts, param_declaration, type_declaration}
use Rattle.sp_naming.specs.Levels.{level_declarations}
use Rattle.sp_naming.specs.Names.{is_among, name_of, repeat_rule, repeated, repeated_names}
use Rattle.sp_naming.specs.Numbers.{after, numbered}
use Rattle.sp_scopes.specs.declared.lent.LevelOrder.TheVariants as order
use Rattle.sp_scopes.specs.Headers.{asked, past}
use Rattle.sp_scopes.specs.Interfaces.{interface_broken, is_level, lattice_broken, level_rule, names_broken, scopes_broken}
use Rattle.sp_scopes.specs.Lent.{declared_level, entity_level, level_at, level_name, level_names, level_of, level_order, neighbours}
use Rattle.sp_scopes.specs.Modules.{limit_broken, limits_broken}
use Rattle.sp_scopes.specs.Scopes.{scopes_of}
use Rattle.sp_scopes.proofs.Laws.{no_repeats, within_limits}
use Rattle.sp_specification.specs.Orders.{alone}

-- Lists

same_item : {X : Type 0} (a b : X) → Some a ≡ Some b → a ≡ b
same_item a b e = cc

pub left_nothing : {X : Type 0} (xs ys : List X) → xs ++ ys ≡ [] → xs ≡ []
left_nothing [] ys h = refl
left_nothing (x ∷ xs) ys h = absurd cc

pub right_nothing : {X : Type 0} (xs ys : List X) → xs ++ ys ≡ [] → ys ≡ []
right_nothing [] ys h = h
right_nothing (x ∷ xs) ys h = absurd cc

pub map_nothing : {X Y : Type 0} (f : X → Y) (xs : List X) → map f xs ≡ [] → xs ≡ []
map_nothing f [] h = refl
map_nothing f (x ∷ xs) h = absurd cc

-- where each item makes nothing of one sort if it makes nothing of another, so do all
flat_nothing : {X Y : Type 0} (f g : X → List Y) → ((x : X) → f x ≡ [] → g x ≡ []) → (xs : List X) → flat_map f xs ≡ [] → flat_map g xs ≡ []
flat_nothing f g h [] e = refl
flat_nothing f g h (x ∷ xs) e =
    let one = h x (left_nothing (f x) (flat_map f xs) e) in
    let rest = flat_nothing f g h xs (right_nothing (f x) (flat_map f xs) e) in
    (λ i. one i ++ rest i)

-- No module declares a level

abbrev HasNoLevel : List Declaration → Type 0
HasNoLevel [] = Unit {0}
HasNoLevel (d ∷ ds) = (is_level d.entity ≡ false) × HasNoLevel ds

both : (xs ys : List Declaration) → HasNoLevel xs → HasNoLevel ys → HasNoLevel (xs ++ ys)
both [] ys a b = b
both (x ∷ xs) ys a b = (a.0, both xs ys a.1 b)

numbered_none : {A : Type 0} (make : ℕ → A → List Declaration) → ((k : ℕ) (a : A) → HasNoLevel (make k a)) → (k : ℕ) (xs : List A) → HasNoLevel (numbered make k xs)
numbered_none make h k [] = tt
numbered_none make h k (x ∷ xs) = both (make k x) (numbered make (after k) xs) (h k x) (numbered_none make h (after k) xs)

members_none : (f t : ℕ) (owner : List ℕ) (o : Option (List Ident)) → HasNoLevel (members f t owner o)
members_none f t owner None = tt
members_none f t owner (Some xs) = numbered_none (member f t owner) (λ k x. (refl, tt)) 0 xs

types_none : (f t : ℕ) (d : TypeDecl) → HasNoLevel (type_declaration f t d)
types_none f t d = (refl, members_none f t d.name.name d.members)

module_none : (f : ℕ) (c : Counts) (m : Module) → HasNoLevel (module_declarations f c m)
module_none f c m =
    let types = numbered (type_declaration f) c.types m.types in
    let parameters = numbered (param_declaration f) c.parameters m.parameters in
    let definitions = numbered (definition_declaration f) c.definitions m.definitions in
    let functions = numbered (function_declaration f) c.functions m.functions in
    both (types ++ parameters ++ definitions) functions
    (both (types ++ parameters) definitions
    (both types parameters (numbered_none (type_declaration f) (types_none f) c.types m.types) (numbered_none (param_declaration f) (λ k x. (refl, tt)) c.parameters m.parameters))
    (numbered_none (definition_declaration f) (λ k x. (refl, tt)) c.definitions m.definitions))
    (numbered_none (function_declaration f) (λ k x. (refl, tt)) c.functions m.functions)

modules_none : (f : ℕ) (c : Counts) (ms : List Module) → HasNoLevel (modules_declarations f c ms)
modules_none f c [] = tt
modules_none f c (m ∷ ms) = both (module_declarations f c m) (modules_declarations (after f) (counts_after c m) ms) (module_none f c m) (modules_none (after f) (counts_after c m) ms)

-- So names of levels stand for the same with and without them

zero_level : (e : Entity) → is_level e ≡ false → entity_level e ≡ 0
zero_level (entity.Declared k) h = refl
zero_level (entity.Member t k) h = refl
zero_level (entity.Param k) h = refl
zero_level (entity.Definition k) h = refl
zero_level (entity.Function k) h = refl
zero_level (entity.Level k) h = absurd cc

no_name : (x : List ℕ) (e : Entity) → is_level e ≡ false → level_name x e ≡ []
no_name x (entity.Declared k) h = refl
no_name x (entity.Member t k) h = refl
no_name x (entity.Param k) h = refl
no_name x (entity.Definition k) h = refl
no_name x (entity.Function k) h = refl
no_name x (entity.Level k) h = absurd cc

no_names : (ds : List Declaration) → HasNoLevel ds → level_names ds ≡ []
no_names [] h = refl
no_names (d ∷ ds) h =
    let one = no_name d.name d.entity h.0 in
    let rest = no_names ds h.1 in
    (λ i. one i ++ rest i)

found_none : (p : Declaration → Bool) (ds : List Declaration) → HasNoLevel ds → (d : Declaration) → find p ds ≡ Some d → is_level d.entity ≡ false
found_none p [] h d e = absurd cc
found_none p (c ∷ ds) h d e = by (p c) (found_none p ds h.1 d) e
  where
    by : (b : Bool) → (find p ds ≡ Some d → is_level d.entity ≡ false) → cond b (Some c) (find p ds) ≡ Some d → is_level d.entity ≡ false
    by true f e = sym (ap (λ (z : Declaration). is_level z.entity) (same_item c d e)) ∙ h.0
    by false f e = f e

level_same : (p : Declaration → Bool) (ls ms : List Declaration) → HasNoLevel ms → level_of (find p (ls ++ ms)) ≡ level_of (find p ls)
level_same p [] ms h = by (find p ms) (found_none p ms h)
  where
    by : (o : Option Declaration) → ((d : Declaration) → o ≡ Some d → is_level d.entity ≡ false) → level_of o ≡ 0
    by None f = refl
    by (Some d) f = zero_level d.entity (f d refl)
level_same p (c ∷ ls) ms h = by (p c) (level_same p ls ms h)
  where
    by : (b : Bool) → level_of (find p (ls ++ ms)) ≡ level_of (find p ls) → level_of (cond b (Some c) (find p (ls ++ ms))) ≡ level_of (cond b (Some c) (find p ls))
    by true e = refl
    by false e = e

asked_same : (p : Declaration → Bool) (q : Span) (ls ms : List Declaration) → HasNoLevel ms → asked is_level q (find p (ls ++ ms)) ≡ [] → asked is_level q (find p ls) ≡ []
asked_same p q [] ms h e = absurd (by (find p ms) (found_none p ms h) e)
  where
    none : (b : Bool) → b ≡ false → cond b [] (breaks q rule.WrongKind) ≡ [] → ⊥
    none true f e = absurd cc
    none false f e = absurd cc

    by : (o : Option Declaration) → ((d : Declaration) → o ≡ Some d → is_level d.entity ≡ false) → asked is_level q o ≡ [] → ⊥
    by None f e = absurd cc
    by (Some d) f e = none (is_level d.entity) (f d refl) e
asked_same p q (c ∷ ls) ms h e = by (p c) (asked_same p q ls ms h) e
  where
    by : (b : Bool) → (asked is_level q (find p (ls ++ ms)) ≡ [] → asked is_level q (find p ls) ≡ []) →
        asked is_level q (cond b (Some c) (find p (ls ++ ms))) ≡ [] → asked is_level q (cond b (Some c) (find p ls)) ≡ []
    by true f e = e
    by false f e = f e

lattice_same : (ls ms : List Declaration) → HasNoLevel ms → (t : LatticeTree) → lattice_broken (ls ++ ms) t ≡ [] → lattice_broken ls t ≡ []
lattice_same ls ms h (lattice.Product p chain categories) e = e
lattice_same ls ms h (lattice.Order p names chains) e = flat_nothing (flat_map (level_rule (ls ++ ms))) (flat_map (level_rule ls)) chain chains e
  where
    chain : (xs : List Ident) → flat_map (level_rule (ls ++ ms)) xs ≡ [] → flat_map (level_rule ls) xs ≡ []
    chain xs e = flat_nothing (level_rule (ls ++ ms)) (level_rule ls) (λ x e. asked_same (λ d. bytes_eq x.name d.name) x.span ls ms h e) xs e

order_by : (f g : Ident → ℕ) → ((x : Ident) → f x ≡ g x) → (chains : List (List Ident)) → order.Pairs (flat_map (neighbours f None) chains) ≡ order.Pairs (flat_map (neighbours g None) chains)
order_by f g h chains = λ i. order.Pairs (flat_map (neighbours (λ x. h x i) None) chains)

order_same : (ls ms ns : List Declaration) → HasNoLevel ms → HasNoLevel ns → (t : LatticeTree) → level_order (ls ++ ms) t ≡ level_order (ls ++ ns) t
order_same ls ms ns a b (lattice.Product p chain categories) = refl
order_same ls ms ns a b (lattice.Order p names chains) =
    order_by (level_at (ls ++ ms)) (level_at (ls ++ ns)) (λ x. level_same (λ d. bytes_eq x.name d.name) ls ms a ∙ sym (level_same (λ d. bytes_eq x.name d.name) ls ns b)) chains

names_same : (ls ms ns : List Declaration) → HasNoLevel ms → HasNoLevel ns → level_names (ls ++ ms) ≡ level_names (ls ++ ns)
names_same ls ms ns a b =
    flat_map-append declared_level ls ms
    ∙ ap (λ z. level_names ls ++ z) (no_names ms a ∙ sym (no_names ns b))
    ∙ sym (flat_map-append declared_level ls ns)

-- the declared order of the levels is that of the lattice alone
pub one_order : (i : InterfaceTree) (ms : List Module) → (scopes_of (alone i) []).order ≡ (scopes_of i ms).order
one_order i ms = order_same (level_declarations i.lattice) [] (modules_declarations 1 no_counts ms) (modules_none 1 no_counts []) (modules_none 1 no_counts ms) i.lattice

-- and so are their names
pub one_naming : (i : InterfaceTree) (ms : List Module) → (scopes_of (alone i) []).levels ≡ (scopes_of i ms).levels
one_naming i ms = names_same (level_declarations i.lattice) [] (modules_declarations 1 no_counts ms) (modules_none 1 no_counts []) (modules_none 1 no_counts ms)

-- Nothing is broken without modules where nothing is with them

repeated_front : (before xs ys : List Declaration) → repeated before (xs ++ ys) ≡ [] → repeated before xs ≡ []
repeated_front before [] ys e = refl
repeated_front before (d ∷ xs) ys e =
    let here = in_file d.file (repeat_rule (is_among (map name_of before) d.name) d.span) in
    let one = left_nothing here (repeated (before ++ d ∷ []) (xs ++ ys)) e in
    let rest = repeated_front (before ++ d ∷ []) xs ys (right_nothing here (repeated (before ++ d ∷ []) (xs ++ ys)) e) in
    (λ i. one i ++ rest i)

limits_front : (xs ys : List Declaration) → limits_broken (xs ++ ys) ≡ [] → limits_broken xs ≡ []
limits_front xs ys e = left_nothing (limits_broken xs) (limits_broken ys) (sym (flat_map-append limit_broken xs ys) ∙ e)

pub interface_fine : (i : InterfaceTree) (ms : List Module) → scopes_broken i ms ≡ [] → lattice_broken (declarations i ms) i.lattice ≡ []
interface_fine i ms h =
    let ds = declarations i ms in
    let here = map_nothing (λ v. record { file = 0; violation = v }) (interface_broken ds i) (left_nothing (in_file 0 (interface_broken ds i)) _ h) in
    right_nothing (past _ _ i.modules) (lattice_broken ds i.lattice) (right_nothing (repeated_names [] i.modules) _ here)

-- where names and headers break nothing, the lattice by itself breaks nothing
pub alone_fine : (i : InterfaceTree) (ms : List Module) → scopes_broken i ms ≡ [] → scopes_broken (alone i) [] ≡ []
alone_fine i ms h =
    let ls = level_declarations i.lattice in
    let rest = modules_declarations 1 no_counts ms in
    let own : lattice_broken ls i.lattice ≡ [] = lattice_same ls rest (modules_none 1 no_counts ms) i.lattice (interface_fine i ms h) in
    let twice : repeated [] ls ≡ [] = repeated_front [] ls rest (no_repeats i ms h) in
    let limits : limits_broken ls ≡ [] = limits_front ls rest (within_limits i ms h) in
    subst (λ ds. names_broken ds (alone i) [] ≡ []) (sym (append-nil ls)) (λ j. in_file 0 (own j) ++ (twice j ++ (limits j ++ [])))
