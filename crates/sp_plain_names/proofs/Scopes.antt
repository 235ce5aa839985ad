-- The names that are known of all declarations are plain where those of the trees are.
use Rattle.std.proofs.Common.{◌≡◌, Bool, true, false, ℕ, zero, suc, ◌+◌, ◌*◌, ◌/◌, ◌%◌, ◌^◌, ◌==◌, List, [], ◌∷◌, ◌++◌, Option, None, Some, IsTrue, if◌then◌else◌, length, map, nat_le, refl}
use Rattle.std.specs.List.{All, flat_map}
use Rattle.std.proofs.lemmas.List.Elements.{All-nil, All-cons, All-append, All-head, All-map, All-tail}
use Rattle.sp_lexer.specs.Pieces.{word_byte}
use Rattle.sp_tree.specs.declared.expr.ExprTree.{ExprTree}
use Rattle.sp_tree.specs.declared.interface.InterfaceTree.{InterfaceTree}
use Rattle.sp_tree.specs.declared.interface.LatticeTree.{LatticeTree}
use Rattle.sp_tree.specs.declared.interface.LatticeTree.TheVariants as lattice
use Rattle.sp_tree.specs.declared.module.FunDecl.{FunDecl}
use Rattle.sp_tree.specs.declared.module.Header.{Header}
use Rattle.sp_tree.specs.declared.module.Module.{Module}
use Rattle.sp_tree.specs.declared.module.TypeDecl.{TypeDecl}
use Rattle.sp_tree.specs.declared.names.FormalTree.{FormalTree}
use Rattle.sp_tree.specs.declared.names.Ident.{Ident}
use Rattle.sp_naming.specs.declared.declaration.Declaration.{Declaration}
use Rattle.sp_naming.specs.declared.declaration.Entity.{Entity}
use Rattle.sp_naming.specs.declared.declaration.Entity.TheVariants as entity
use Rattle.sp_naming.specs.declared.listing.Counts.{Counts}
use Rattle.sp_naming.specs.Declarations.{counts_after, declarations, definition_declaration, function_declaration, member, members, module_declarations, modules_declarations, no_counts, param_declaration, type_declaration}
use Rattle.sp_naming.specs.Levels.{element_levels, level, level_declarations, listed_levels, product_levels, product_name, product_or_chain}
use Rattle.sp_naming.specs.Numbers.{after, counted, numbered}
use Rattle.sp_scopes.specs.declared.heads.Head.{Head}
use Rattle.sp_scopes.specs.declared.heads.Local.{Local}
use Rattle.sp_scopes.specs.declared.heads.Sort.{Sort}
use Rattle.sp_scopes.specs.declared.heads.Sort.TheVariants as sort
use Rattle.sp_scopes.specs.declared.lent.DeclaredType.{DeclaredType}
use Rattle.sp_scopes.specs.declared.scopes.Scopes.{Scopes}
use Rattle.sp_scopes.specs.Heads.{function_heads, function_sort, head_of, local_of, parameter_heads, sight, value_type}
use Rattle.sp_scopes.specs.Lent.{declared_level, declared_type, level_name, level_names, member_names, module_types}
use Rattle.sp_scopes.specs.Scopes.{scopes_of}
use Rattle.sp_plain_names.specs.Names.{IsPlain}
use Rattle.sp_plain_names.proofs.Forms.{WhereSome}
use Rattle.sp_plain_names.proofs.Trees.{IsPlainDefinition, IsPlainFormal, IsPlainFunction, IsPlainHeader, IsPlainIdent, IsPlainInterface, IsPlainLattice, IsPlainModule, IsPlainType}

-- ---- lists made of lists

all_numbered : {A B : Type 0} (P : A → Type 0) (Q : B → Type 0) (make : ℕ → A → List B) → ((k : ℕ) (x : A) → P x → All Q (make k x)) → (k : ℕ) (xs : List A) → All P xs → All Q (numbered make k xs)
all_numbered P Q make keeps k [] h = All-nil Q
all_numbered P Q make keeps k (x ∷ xs) h =
    All-append Q (make k x) (numbered make (after k) xs) (keeps k x (All-head P x xs h)) (all_numbered P Q make keeps (after k) xs (All-tail P x xs h))

all_flat : {A B : Type 0} (P : A → Type 0) (Q : B → Type 0) (make : A → List B) → ((x : A) → P x → All Q (make x)) → (xs : List A) → All P xs → All Q (flat_map make xs)
all_flat P Q make keeps [] h = All-nil Q
all_flat P Q make keeps (x ∷ xs) h = All-append Q (make x) (flat_map make xs) (keeps x (All-head P x xs h)) (all_flat P Q make keeps xs (All-tail P x xs h))

pub all_map : {A B : Type 0} (P : A → Type 0) (Q : B → Type 0) (make : A → B) → ((x : A) → P x → Q (make x)) → (xs : List A) → All P xs → All Q (map make xs)
all_map P Q make keeps [] h = All-nil Q
all_map P Q make keeps (x ∷ xs) h = All-cons Q (make x) (map make xs) (keeps x (All-head P x xs h)) (all_map P Q make keeps xs (All-tail P x xs h))

one : {A : Type 0} (P : A → Type 0) (x : A) → P x → All P (x ∷ [])
one P x h = All-cons P x [] h (All-nil P)

-- ---- declarations

abbrev IsPlainDeclaration : Declaration → Type 0
IsPlainDeclaration d = IsPlain d.name

members_plain : (f t : ℕ) (owner : List ℕ) (o : Option (List Ident)) → WhereSome (All IsPlainIdent) o → All IsPlainDeclaration (members f t owner o)
members_plain f t owner None h = All-nil IsPlainDeclaration
members_plain f t owner (Some xs) h = all_numbered IsPlainIdent IsPlainDeclaration (member f t owner) (λ k x e. one IsPlainDeclaration _ e) 0 xs h

type_plain : (f k : ℕ) (d : TypeDecl) → IsPlainType d → All IsPlainDeclaration (type_declaration f k d)
type_plain f k d h = All-cons IsPlainDeclaration _ _ h.0 (members_plain f k d.name.name d.members h.1)

module_plain : (f : ℕ) (c : Counts) (m : Module) → IsPlainModule m → All IsPlainDeclaration (module_declarations f c m)
module_plain f c m h =
    All-append IsPlainDeclaration _ _
    (All-append IsPlainDeclaration _ _
    (All-append IsPlainDeclaration _ _ (all_numbered IsPlainType IsPlainDeclaration (type_declaration f) (type_plain f) c.types m.types h.types)
    (all_numbered IsPlainHeader IsPlainDeclaration (param_declaration f) (λ k x e. one IsPlainDeclaration _ e.0) c.parameters m.parameters h.parameters))
    (all_numbered IsPlainDefinition IsPlainDeclaration (definition_declaration f) (λ k x e. one IsPlainDeclaration _ e.0) c.definitions m.definitions h.definitions))
    (all_numbered IsPlainFunction IsPlainDeclaration (function_declaration f) (λ k x e. one IsPlainDeclaration _ e.0) c.functions m.functions h.functions)

modules_plain : (f : ℕ) (c : Counts) (ms : List Module) → All IsPlainModule ms → All IsPlainDeclaration (modules_declarations f c ms)
modules_plain f c [] h = All-nil IsPlainDeclaration
modules_plain f c (m ∷ ms) h =
    All-append IsPlainDeclaration _ _ (module_plain f c m (All-head IsPlainModule m ms h)) (modules_plain (after f) (counts_after c m) ms (All-tail IsPlainModule m ms h))

-- ---- levels

pick : (t : Bool) (a b : List ℕ) → IsPlain a → IsPlain b → IsPlain (if t then a else b)
pick true a b h k = h
pick false a b h k = k

longer : (name more : List ℕ) → IsPlain name → IsPlain more → IsPlain (name ++ 95 ∷ [] ++ more)
longer name more h k =
    All-append (λ b. IsTrue (word_byte b)) (name ++ 95 ∷ []) more
    (All-append (λ b. IsTrue (word_byte b)) name (95 ∷ []) h (one (λ b. IsTrue (word_byte b)) 95 refl)) k

product_plain : (name : List ℕ) (cs : List Ident) (set : ℕ) → IsPlain name → All IsPlainIdent cs → IsPlain (product_name name cs set)
product_plain name [] set h hs = h
product_plain name (c ∷ cs) set h hs =
    product_plain (if set % 2 == 1 then name ++ 95 ∷ [] ++ c.name else name) cs (set / 2)
    (pick (set % 2 == 1) (name ++ 95 ∷ [] ++ c.name) name (longer name c.name h (All-head IsPlainIdent c cs hs)) h) (All-tail IsPlainIdent c cs hs)

element_plain : (cs : List Ident) (x : Ident) (k set n : ℕ) → IsPlainIdent x → All IsPlainIdent cs → All IsPlainDeclaration (element_levels cs x k set n)
element_plain cs x k set zero h hs = All-nil IsPlainDeclaration
element_plain cs x k set (suc n) h hs = All-cons IsPlainDeclaration _ _ (product_plain x.name cs set h hs) (element_plain cs x (k + 1) (set + 1) n h hs)

products_plain : (cs : List Ident) (k : ℕ) (xs : List Ident) → All IsPlainIdent cs → All IsPlainIdent xs → All IsPlainDeclaration (product_levels cs k xs)
products_plain cs k [] hs h = All-nil IsPlainDeclaration
products_plain cs k (x ∷ xs) hs h =
    All-append IsPlainDeclaration _ _ (element_plain cs x k 0 (2 ^ length cs) (All-head IsPlainIdent x xs h) hs) (products_plain cs (k + 2 ^ length cs) xs hs (All-tail IsPlainIdent x xs h))

listed_plain : (xs : List Ident) → All IsPlainIdent xs → All IsPlainDeclaration (listed_levels xs)
listed_plain xs h = all_numbered IsPlainIdent IsPlainDeclaration (λ k (x : Ident). level x x.name k ∷ []) (λ k x e. one IsPlainDeclaration _ e) 0 xs h

either_plain : (chain cs : List Ident) (t : Bool) → All IsPlainIdent chain → All IsPlainIdent cs → All IsPlainDeclaration (if t then product_levels cs 0 chain else listed_levels chain)
either_plain chain cs true h hs = products_plain cs 0 chain hs h
either_plain chain cs false h hs = listed_plain chain h

levels_plain : (l : LatticeTree) → IsPlainLattice l → All IsPlainDeclaration (level_declarations l)
levels_plain (lattice.Order p names chains) h = listed_plain names h
levels_plain (lattice.Product p chain categories) h = either_plain chain categories _ h.0 h.1

declared_plain : (i : InterfaceTree) (ms : List Module) → IsPlainInterface i → All IsPlainModule ms → All IsPlainDeclaration (declarations i ms)
declared_plain i ms h hs = All-append IsPlainDeclaration _ _ (levels_plain i.lattice h.lattice) (modules_plain 1 no_counts ms hs)

-- ---- what is lent

level_plain : (d : Declaration) → IsPlainDeclaration d → All IsPlain (declared_level d)
level_plain d h = by d.entity
  where
    by : (e : Entity) → All IsPlain (level_name d.name e)
    by (entity.Level k) = one IsPlain d.name h
    by (entity.Declared k) = All-nil IsPlain
    by (entity.Member k j) = All-nil IsPlain
    by (entity.Param k) = All-nil IsPlain
    by (entity.Definition k) = All-nil IsPlain
    by (entity.Function k) = All-nil IsPlain

abbrev pub IsPlainDeclared : DeclaredType → Type 0
IsPlainDeclared d = IsPlain d.name × WhereSome (All IsPlain) d.members

abbrev IsPlainLocal : Local → Type 0
IsPlainLocal x = IsPlain x.name

abbrev pub IsPlainHead : Head → Type 0
IsPlainHead h = IsPlain h.name × All (λ (x : Local). IsPlain x.name) h.formals

member_names_plain : (o : Option (List Ident)) → WhereSome (All IsPlainIdent) o → WhereSome (All IsPlain) (member_names o)
member_names_plain None h = tt
member_names_plain (Some xs) h = all_map IsPlainIdent IsPlain (λ (x : Ident). x.name) (λ x e. e) xs h

types_plain : (m : Module) → IsPlainModule m → All IsPlainDeclared (module_types m)
types_plain m h = all_map IsPlainType IsPlainDeclared declared_type (λ d e. (e.0, member_names_plain d.members e.1)) m.types h.types

module _ (see : List ℕ → Option Declaration) where
  head_plain : (h : Header) (s : Sort) → IsPlainHeader h → IsPlainHead (head_of see h s)
  head_plain h s e = (e.0, all_map IsPlainFormal IsPlainLocal (local_of see) (λ f p. p) h.formals e.1)

pub record ArePlainScopes (s : Scopes) : Type 0 where
  pub types : All IsPlainDeclared s.types
  pub parameters : All IsPlainHead s.parameters
  pub functions : All IsPlainHead s.functions
  pub levels : All IsPlain s.levels

pub scopes_plain : (i : InterfaceTree) (ms : List Module) → IsPlainInterface i → All IsPlainModule ms → ArePlainScopes (scopes_of i ms)
scopes_plain i ms h hs = record {
  types = all_flat IsPlainModule IsPlainDeclared module_types types_plain ms hs;
  parameters = all_numbered IsPlainModule IsPlainHead (parameter_heads (declarations i ms) i.modules)
      (λ k m e. all_map IsPlainHeader IsPlainHead _ (λ x p. head_plain (sight (declarations i ms) i.modules k m) x (sort.Plain (value_type (sight (declarations i ms) i.modules k m) x.ty)) p) m.parameters e.parameters) 0 ms hs;
  functions = all_numbered IsPlainModule IsPlainHead (function_heads (declarations i ms) i.modules)
      (λ k m e. all_map IsPlainFunction IsPlainHead _ (λ x p. head_plain (sight (declarations i ms) i.modules k m) x.head (function_sort (sight (declarations i ms) i.modules k m) x.head.ty x.body) p) m.functions e.functions) 0 ms hs;
  levels = all_flat IsPlainDeclaration IsPlain declared_level level_plain (declarations i ms) (declared_plain i ms h hs);
}
