-- Where the rows of functions break nothing, each is a row of the mapping, and each upper primitive V-function has one.
use Rattle.std.proofs.Common.{◌≡◌, refl, sym, ◌∙◌, ap, subst, arith, ℕ, zero, suc, ◌+◌, ◌<◌, ◌≤◌, List, [], ◌∷◌, ◌++◌, Bool, true, false, Option, Some, None, length, map}
use Rattle.std.specs.Prelude.{IsTrue, if◌then◌else◌, slice_get}
use Rattle.std.specs.List.{All, flat_map}
use Rattle.std.specs.Option.{option_map}
use Rattle.std.proofs.lemmas.List.{append-nil}
use Rattle.sp_text.specs.declared.fault.Rule.TheVariants as rule
use Rattle.sp_text.specs.declared.fault.Span.{Span}
use Rattle.sp_text.specs.declared.limits.TheConstants.{MOST_ARGUMENTS}
use Rattle.sp_text.specs.declared.violation.Violation.{Violation}
use Rattle.sp_text.specs.Firsts.{behind}
use Rattle.sp_text.specs.Violations.{breaks}
use Rattle.sp_values.specs.declared.value.Ty.{Ty}
use Rattle.sp_values.specs.declared.value.Ty.TheVariants as ty
use Rattle.sp_tree.specs.declared.interface.Equation.{Equation}
use Rattle.sp_tree.specs.declared.names.Ident.{Ident}
use Rattle.sp_core.specs.declared.expr.Expr.{Expr}
use Rattle.sp_core.specs.declared.function.Formal.{Formal}
use Rattle.sp_core.specs.declared.function.Function.{Function}
use Rattle.sp_core.specs.declared.function.Kind.{Kind}
use Rattle.sp_core.specs.declared.function.Kind.TheVariants as kind
use Rattle.sp_core.specs.declared.function.Param.{Param as Parameter}
use Rattle.sp_core.specs.declared.function.TypeInfo.{TypeInfo}
use Rattle.sp_core.specs.declared.mapping.MapRow.{MapRow}
use Rattle.sp_core.specs.Machine.{types_of}
use Rattle.sp_core.specs.Mappings.{IsRow}
use Rattle.sp_core.specs.Measures.{Anything, LooksAt, Nothing}
use Rattle.sp_core.specs.Parts.{Parts, signature}
use Rattle.sp_core.specs.Tree.{Tree, tree}
use Rattle.sp_core.specs.Typing.{HasType, is_type, primitive_type}
use Rattle.sp_core.specs.WellFormed.{AreDifferent, AreFormals, IsExpression, IsFunction, IsKind, IsWellFormed, members_of, names_of}
use Rattle.sp_plain.specs.Text.{Text, span, text}
use Rattle.sp_definitions.specs.Definitions.{kept}
use Rattle.sp_naming.specs.Names.{is_among, repeated_names}
use Rattle.sp_scopes.specs.declared.heads.Local.{Local}
use Rattle.sp_judge.specs.declared.scope.Site.TheVariants as site
use Rattle.sp_judge.specs.Broken.{broken, limit_rules, whole_broken}
use Rattle.sp_judge.specs.Translation.{translation}
use Rattle.sp_judge.specs.Visible.{Visible}
use Rattle.sp_typed.specs.Fits.{types, AreNumbers, AreTypes}
use Rattle.sp_typed.proofs.Fitting.{append_left, append_right, behind_inner, behind_own}
use Rattle.sp_typed.proofs.Quotes.{looks-weaken}
use Rattle.sp_elaborate.specs.Expressions.{expression_of}
use Rattle.sp_functions.specs.Assertions.{formal_of}
use Rattle.sp_functions.specs.Equations.{equation_name}
use Rattle.sp_functions.specs.Judged.{judged, made}
use Rattle.sp_functions.specs.Laws.{IsSeenBy}
use Rattle.sp_functions.proofs.Known.{expression, kept_fine, same_made}
use Rattle.sp_functions.proofs.Names.{names-different}
use Rattle.sp_instance.specs.Heads.{ident_name, kind_broken, names_in, unfit}
use Rattle.sp_instance.specs.Scripts.{function_name}
use Rattle.sp_instance.specs.Words.{place_of}
use Rattle.sp_specification.specs.Numbers.{IsEquationNumbered}
use Rattle.sp_mapping_rules.specs.Functions.{formal_count, formals_given, function_missing, function_row_broken, function_value_broken, functions_broken, functions_missing, level_given, name_if, primitive_missing, primitive_name, primitive_names, row_level, row_of, typed_broken, upper_function, upper_number}
use Rattle.sp_mapping_rules.specs.Levels.{level_over, type_over}
use Rattle.sp_mapping_rules.specs.Rows.{count_broken, row_head_broken, row_heads, with_types}
use Rattle.sp_mapping_rules.specs.Types.{at_place, number_or_none}
use Rattle.sp_mapping_rules.specs.Upper.{HasRow, IsRowFrom}
use Rattle.sp_mapping_laws.proofs.Levels.{IsParamCore, level_nothing, level_typed}
use Rattle.sp_mapping_laws.proofs.Lists.{IsFound, all_of, got_map, item_found, known, functions_different, makes_nothing, map_got, map_length, map_same, no_item, of_all, place_is, same_item}
use Rattle.sp_mapping_laws.proofs.Rows.{all_typed, counted, few, few_locals, formals_typed, locals_typed, tree_of, types_over}
use Rattle.sp_mapping_laws.proofs.Types.{IsTypeRow, is_known}

-- a primitive V-function of this name
record IsPrimitive (fs : List Function) (x : List ℕ) : Type 0 where
  number : ℕ
  function : Function
  type : Ty
  there : slice_get fs number ≡ Some function
  primitive : primitive_type function.kind ≡ Some type
  name : function.name ≡ x

later : (f : Function) (fs : List Function) (x : List ℕ) → IsPrimitive fs x → IsPrimitive (f ∷ fs) x
later f fs x r = record { number = suc r.number; function = r.function; type = r.type; there = r.there; primitive = r.primitive; name = r.name }

-- a name of a primitive V-function is that of one
abbrev ArePrimitive : List Function → Type 0
ArePrimitive fs = (k : ℕ) (x : List ℕ) → slice_get (primitive_names fs) k ≡ Some x → IsPrimitive fs x

first_primitive : (f : Function) (fs : List Function) → ArePrimitive fs → (t : Ty) → primitive_type f.kind ≡ Some t → (k : ℕ) (x : List ℕ) →
    slice_get (f.name ∷ primitive_names fs) k ≡ Some x → IsPrimitive (f ∷ fs) x
first_primitive f fs rest t i zero x e = record { number = 0; function = f; type = t; there = refl; primitive = i; name = same_item f.name x e }
first_primitive f fs rest t i (suc k) x e = later f fs x (rest k x e)

primitive_by : (f : Function) (fs : List Function) → ArePrimitive fs → (o : Option Ty) → primitive_type f.kind ≡ o → (k : ℕ) (x : List ℕ) →
    slice_get (name_if f.name o ++ primitive_names fs) k ≡ Some x → IsPrimitive (f ∷ fs) x
primitive_by f fs rest None i k x e = later f fs x (rest k x e)
primitive_by f fs rest (Some t) i k x e = first_primitive f fs rest t i k x e

primitive_at : (fs : List Function) → ArePrimitive fs
primitive_at [] k x e = no_item k x e
primitive_at (f ∷ fs) k x e = primitive_by f fs (primitive_at fs) (primitive_type f.kind) refl k x e

asked : (names all : List (List ℕ)) (x : Ident) → kind_broken names all x ≡ [] → is_among names x.name ≡ true
asked names all x h = by (is_among names x.name) refl h
  where
    unfitting : (b : Bool) → (breaks x.span (if b then rule.WrongKind else rule.UnknownName)) ≡ [] → ⊥
    unfitting b h = absurd cc

    by : (b : Bool) → is_among names x.name ≡ b → (if b then [] else unfit all x) ≡ [] → is_among names x.name ≡ true
    by true e h = e
    by false e h = absurd (unfitting (is_among all x.name) h)

-- the type of a primitive V-function is one of the signature
primitive_there : (u : Parts) (xs : List Ty) (g : ℕ) (k : Kind) (t : Ty) → IsKind (signature u) xs g k → primitive_type k ≡ Some t → IsTrue (is_type (signature u) t)
primitive_there u xs g (kind.Primitive v e) t h i = subst (λ z. IsTrue (is_type (signature u) z)) (same_item v t i) h.type
primitive_there u xs g (kind.Derived v e) t h i = absurd cc
primitive_there u xs g (kind.Operation es) t h i = absurd cc
primitive_there u xs g (kind.Both v es) t h i = absurd cc

module _ (u p : Parts) (w : IsWellFormed u) (s : Visible) (seen : IsSeenBy (signature p) s) (ts : List ℕ) (ps : List Expr) (levels : u.lattice.count ≡ p.lattice.count)
    (there : (t : Ty) → IsTrue (is_type (signature u) t) → IsTrue (is_type (signature p) (type_over ts t)))
    (type_rows : (k : ℕ) (a : TypeInfo) → slice_get u.types k ≡ Some a → IsTypeRow p ts k a)
    (cores : (k : ℕ) (q : Parameter) → slice_get u.params k ≡ Some q → (e : Expr) × (slice_get ps k ≡ Some e) × IsParamCore p ts q e) where
  names : AreDifferent (map function_name u.functions)
  names = subst AreDifferent (map_same (λ f. f.name) function_name u.functions (λ x. refl)) (functions_different u w.names)

  -- the number of the function of a name
  numbered : (g : ℕ) (f : Function) → slice_get u.functions g ≡ Some f → (r : Equation) → r.name.name ≡ f.name → upper_number u.functions r ≡ Some g
  numbered g f at r same = ap (place_of (map function_name u.functions)) same ∙ place_is (map function_name u.functions) names g f.name (map_got function_name u.functions g f at)

  -- the row of a text that is of function f, with number g
  abbrev made_row : Equation → Option ℕ → Option Function → MapRow
  made_row r g o = record {
    upper = number_or_none g;
    name = r.name.name;
    formals = map formal_of (with_types ts r.formals (formals_given o));
    value = expression_of (made s (with_types ts r.formals (formals_given o)) (text r.value));
    level = level_given ts ps o;
  }

  module _ (r : Equation) (n : AreNumbers (text r.value)) (own : function_row_broken u s ts ps r ≡ []) where
    abbrev head : List Violation
    head = row_head_broken (primitive_names u.functions) (names_of u) (option_map formal_count (upper_function u.functions r)) r

    abbrev inner : List Violation
    inner = kind_broken (primitive_names u.functions) (names_of u) r.name ++ repeated_names [] r.formals

    abbrev count : List Violation
    count = count_broken r.name.span (option_map formal_count (upper_function u.functions r)) (length r.formals)

    abbrev value : List Violation
    value = function_value_broken s ts ps r (upper_function u.functions r)

    head_none : behind inner count ≡ []
    head_none = behind_inner head value own

    primitive : IsPrimitive u.functions r.name.name
    primitive =
        let a = asked (primitive_names u.functions) (names_of u) r.name (append_left (kind_broken (primitive_names u.functions) (names_of u) r.name) (repeated_names [] r.formals) (behind_inner inner count head_none)) in
        let k = known (primitive_names u.functions) r.name.name a in
        primitive_at u.functions k.0 r.name.name k.2

    abbrev g : ℕ
    g = primitive.number

    abbrev f : Function
    f = primitive.function

    abbrev t : Ty
    t = primitive.type

    number : upper_number u.functions r ≡ Some g
    number = numbered g f primitive.there r (sym primitive.name)

    upper : upper_function u.functions r ≡ Some f
    upper = ap (at_place u.functions) number ∙ primitive.there

    abbrev locals : List Local
    locals = with_types ts r.formals f.formals

    is_function : IsFunction (signature u) g f
    is_function = w.functions g f primitive.there

    formals_there : (k : ℕ) (v : Ty) → slice_get (types_of f.formals) k ≡ Some v → IsTrue (is_type (signature p) (type_over ts v))
    formals_there k v e = there v (of_all (λ v. IsTrue (is_type (signature u) v)) (types_of f.formals) is_function.formals.types k v e)

    locals_there : AreTypes (signature p) locals
    locals_there = locals_typed (signature p) ts r.formals f.formals formals_there

    same_count : length f.formals ≡ length r.formals
    same_count = counted r.name.span (length f.formals) (length r.formals) (sym (ap (λ o. count_broken r.name.span (option_map formal_count o) (length r.formals)) upper) ∙ behind_own inner count head_none)

    same_types : types locals ≡ map (type_over ts) (types_of f.formals)
    same_types = types_over ts r.formals f.formals same_count

    row_types : types_of (map formal_of locals) ≡ types locals
    row_types = formals_typed locals

    value_none : typed_broken s ts r f (primitive_type f.kind) ++ limit_rules r.name.span (row_level ts ps f) ≡ []
    value_none = sym (ap (function_value_broken s ts ps r) upper) ∙ behind_own head value own

    whole_none : whole_broken s site.Outside locals (Some (type_over ts t)) (text r.value) ≡ []
    whole_none = sym (ap (typed_broken s ts r f) primitive.primitive) ∙ append_left (typed_broken s ts r f (primitive_type f.kind)) (limit_rules r.name.span (row_level ts ps f)) value_none

    abbrev limits : List Violation
    limits = limit_rules (span (text r.value)) (translation s locals (text r.value))

    judged_none : judged s locals (type_over ts t) (text r.value) [] ≡ []
    judged_none = ap (behind (broken s site.Outside locals (Some (type_over ts t)) (text r.value))) (append-nil limits) ∙ whole_none

    type_there : IsTrue (is_type (signature p) (type_over ts t))
    type_there = there t (primitive_there u (types_of f.formals) g f.kind t is_function.kind primitive.primitive)

    value_is : IsExpression (signature p) (types locals) (translation s locals (text r.value)) (type_over ts t)
    value_is = expression (signature p) s seen locals locals_there (type_over ts t) type_there (text r.value) n [] judged_none

    value_tree : tree (expression_of (made s locals (text r.value))) ≡ translation s locals (text r.value)
    value_tree = tree_of (made s locals (text r.value)) ∙ same_made (signature p) s seen locals (type_over ts t) (text r.value) [] judged_none

    level_none : limit_rules r.name.span (row_level ts ps f) ≡ []
    level_none = append_right (typed_broken s ts r f (primitive_type f.kind)) (limit_rules r.name.span (row_level ts ps f)) value_none

    level_tree : tree (expression_of (kept (row_level ts ps f))) ≡ row_level ts ps f
    level_tree = tree_of (kept (row_level ts ps f)) ∙ kept_fine r.name.span (row_level ts ps f) level_none

    formal_number : length (types_of f.formals) ≡ length f.formals
    formal_number = map_length (λ (x : Formal). x.ty) f.formals

    level_has : HasType (signature p) (map (type_over ts) (types_of f.formals)) (row_level ts ps f) ty.Level
    level_has =
        let is = is_function.level in
        subst (λ m. HasType (signature p) (map (type_over ts) (types_of f.formals)) (level_over ts ps m (tree f.level)) ty.Level) formal_number
        (level_typed u p ts ps levels type_rows cores (types_of f.formals) (tree f.level) ty.Level is.no_quantifier is.reads_nothing is.expression.typed)

    level_reads : LooksAt Nothing Nothing (row_level ts ps f)
    level_reads = level_nothing u p ts ps levels type_rows cores (types_of f.formals) (length f.formals) (tree f.level) ty.Level is_function.level.expression.typed

    level_is : IsExpression (signature p) (types locals) (row_level ts ps f) ty.Level
    level_is =
        let l = few r.name.span (row_level ts ps f) level_none in
        record {
          typed = subst (λ z. HasType (signature p) z (row_level ts ps f) ty.Level) (sym same_types) level_has;
          few_nodes = l.0;
          few_quantifiers = l.1;
          no_new = looks-weaken Nothing Nothing Anything Nothing (λ g x. absurd x) (λ g x. x) (row_level ts ps f) level_reads;
        }

    few_rows : length (map formal_of locals) ≤ MOST_ARGUMENTS
    few_rows = omega (arith, map_length formal_of locals, few_locals ts r.formals f.formals, is_function.formals.few)

    -- a row over the lower specification
    row_here : IsRow (signature p) (made_row r (Some g) (Some f)) (type_over ts t)
    row_here = record {
      formals = record {
        few = few_rows;
        types = subst (All (λ v. IsTrue (is_type (signature p) v))) (sym row_types) (all_typed (signature p) locals locals_there);
      };
      value = subst (λ z. IsExpression (signature p) z (tree (expression_of (made s locals (text r.value)))) (type_over ts t)) (sym row_types)
          (subst (λ z. IsExpression (signature p) (types locals) z (type_over ts t)) (sym value_tree) value_is);
      level = subst (λ z. IsExpression (signature p) z (tree (expression_of (kept (row_level ts ps f)))) ty.Level) (sym row_types)
          (subst (λ z. IsExpression (signature p) (types locals) z ty.Level) (sym level_tree) level_is);
      level_reads_nothing = subst (LooksAt Nothing Nothing) (sym level_tree) level_reads;
    }

    row_same : made_row r (Some g) (Some f) ≡ row_of u s ts ps r
    row_same = sym (λ i. made_row r (number i) (upper i))

    row_to : IsRow (signature p) (row_of u s ts ps r) (type_over ts t)
    row_to = subst (λ z. IsRow (signature p) z (type_over ts t)) row_same row_here

    from_here : IsRowFrom u p ts (made_row r (Some g) (Some f))
    from_here = record {
      function = f;
      type = t;
      there = primitive.there;
      primitive = primitive.primitive;
      formals = row_types ∙ same_types;
      value = row_here.value.typed;
    }

    row_from : IsRowFrom u p ts (row_of u s ts ps r)
    row_from = subst (IsRowFrom u p ts) row_same from_here

    -- the function of the row's number has the row's name
    row_number : (row_of u s ts ps r).upper ≡ g
    row_number = ap number_or_none number

    row_function : slice_get u.functions g ≡ Some f
    row_function = primitive.there

    row_name : f.name ≡ r.name.name
    row_name = primitive.name

  module _ (place : Span) (rows : List Equation) (numbers : All IsEquationNumbered rows) (fine : functions_broken u s ts ps rows ≡ []) (all : functions_missing place rows u.functions ≡ []) where
    each : (j : ℕ) (r : Equation) → slice_get rows j ≡ Some r → function_row_broken u s ts ps r ≡ []
    each j r e = makes_nothing (function_row_broken u s ts ps) rows (append_right (repeated_names [] (row_heads rows)) (flat_map (function_row_broken u s ts ps) rows) fine) j r e

    number_of : (j : ℕ) (r : Equation) → slice_get rows j ≡ Some r → AreNumbers (text r.value)
    number_of j r e = of_all IsEquationNumbered rows numbers j r e

    abbrev mapped : List MapRow
    mapped = map (row_of u s ts ps) rows

    pub rows_to : All (λ x. (v : Ty) × IsRow (signature p) x v) mapped
    rows_to = all_of (λ x. (v : Ty) × IsRow (signature p) x v) mapped (λ k x e.
        let a = got_map (row_of u s ts ps) rows k x e in
        subst (λ x. (v : Ty) × IsRow (signature p) x v) a.2 (type_over ts (t a.0 (number_of k a.0 a.1) (each k a.0 a.1)), row_to a.0 (number_of k a.0 a.1) (each k a.0 a.1)))

    pub rows_from : All (IsRowFrom u p ts) mapped
    rows_from = all_of (IsRowFrom u p ts) mapped (λ k x e.
        let a = got_map (row_of u s ts ps) rows k x e in
        subst (IsRowFrom u p ts) a.2 (row_from a.0 (number_of k a.0 a.1) (each k a.0 a.1)))

    -- no two rows are of one function
    same_name : (i j : ℕ) (q r : Equation) → slice_get rows i ≡ Some q → slice_get rows j ≡ Some r → (row_of u s ts ps q).upper ≡ (row_of u s ts ps r).upper → q.name.name ≡ r.name.name
    same_name i j q r x y e =
        let a = each i q x in
        let b = each j r y in
        let m = number_of i q x in
        let n = number_of j r y in
        let numbers = sym (row_number q m a) ∙ e ∙ row_number r n b in
        let functions = same_item (f q m a) (f r n b) (sym (row_function q m a) ∙ ap (slice_get u.functions) numbers ∙ row_function r n b) in
        sym (row_name q m a) ∙ ap (λ (z : Function). z.name) functions ∙ row_name r n b

    pub different : (i j : ℕ) (a b : MapRow) → slice_get mapped i ≡ Some a → slice_get mapped j ≡ Some b → a.upper ≡ b.upper → i ≡ j
    different i j a b x y e =
        let q = got_map (row_of u s ts ps) rows i a x in
        let r = got_map (row_of u s ts ps) rows j b y in
        let same = same_name i j q.0 r.0 q.1 r.1 (ap (λ (z : MapRow). z.upper) q.2 ∙ e ∙ sym (ap (λ (z : MapRow). z.upper) r.2)) in
        names-different (row_heads rows) (append_left (repeated_names [] (row_heads rows)) (flat_map (function_row_broken u s ts ps) rows) fine) i j r.0.name.name
        (map_got ident_name (row_heads rows) i q.0.name (map_got equation_name rows i q.0 q.1) ∙ ap Some same)
        (map_got ident_name (row_heads rows) j r.0.name (map_got equation_name rows j r.0 r.1))

    -- each primitive V-function has a row
    pub complete : (n : ℕ) (h : Function) (v : Ty) → slice_get u.functions n ≡ Some h → primitive_type h.kind ≡ Some v → (types : List ℕ) (name : List ℕ) →
        HasRow (record { name = name; types = types; functions = mapped }) n
    complete n h v at is types name =
        let none = sym (ap (primitive_missing place (names_in (row_heads rows)) h.name) is) ∙ makes_nothing (function_missing place rows) u.functions all n h at in
        let a : IsFound equation_name rows h.name = item_found equation_name rows h.name (is_known place (names_in (row_heads rows)) h.name none) in
        record {
          place = a.place;
          row = row_of u s ts ps a.item;
          there = map_got (row_of u s ts ps) rows a.place a.item a.there;
          upper = ap number_or_none (numbered n h at a.item a.name);
        }
