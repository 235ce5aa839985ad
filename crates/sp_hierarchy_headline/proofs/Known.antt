-- What the interfaces and the mappings of a hierarchy are, where it was read and judged.
use Rattle.std.proofs.Common.{◌≡◌, inl, inr, ◌∙◌, ℕ, true, List, [], Option, None, Some, Result, Ok, Err, ap, refl, slice_get, sym, subst}
use Rattle.std.specs.Str.{bytes_eq}
use Rattle.std.proofs.lemmas.List.Quantifiers.{position-Some}
use Rattle.std.proofs.lemmas.Option.{get_or_from_slice_get}
use Rattle.std.proofs.lemmas.Slice.Eq.{bytes_eq-Decides}
use Rattle.sp_text.specs.declared.fault.SpecFault.{SpecFault}
use Rattle.sp_text.specs.declared.fault.TextFault.{TextFault}
use Rattle.sp_text.specs.declared.fault.TextFault.TheVariants as fault
use Rattle.sp_outside.specs.Files.{Files}
use Rattle.sp_tree.specs.declared.interface.MappingTree.{MappingTree}
use Rattle.sp_tree.specs.declared.names.Ident.{Ident}
use Rattle.sp_core.specs.declared.mapping.Mapping.{Mapping}
use Rattle.sp_core.specs.Parts.{Parts}
use Rattle.sp_scopes.specs.declared.scopes.Scopes.{Scopes}
use Rattle.sp_mapping_rules.specs.Mappings.{mapping_broken, mapping_of}
use Rattle.sp_frame.specs.declared.refusal.Refusal.{Refusal}
use Rattle.sp_frame.specs.Steps.{Each, IsNamed}
use Rattle.sp_sorts.specs.Sorts.{hierarchies, interface_file, mapping_file, mappings}
use Rattle.sp_sorts.specs.Texts.{TreeRead}
use Rattle.sp_system.specs.Interfaces.{Elaborates, IsFaulty, IsFiled, IsOnlySpec, file_of}
use Rattle.sp_system.specs.System.{SystemJudged, SystemRead}
use Rattle.sp_system.specs.declared.interface.Elaborated.{Elaborated}
use Rattle.sp_system.specs.declared.system.System.{System}
use Rattle.sp_system.proofs.Lawful.{judged_system_lawful, read_lawful}
use Rattle.sp_check_command.proofs.Accepted.{judged_by}
use Rattle.sp_plain_names.specs.Names.{HasPlainNames}
use Rattle.sp_plain_names.proofs.Systems.{system_names}
use Rattle.sp_hierarchy_rows.specs.Names.{interface_names}
use Rattle.sp_hierarchy.specs.Judged.{HierarchyJudged, MadeBetween, MappingJudged, MappingMade, MappingNamed, MappingsJudged, MemberJudged, MembersJudged, NameIs, Placed, place_of, placed}
use Rattle.sp_hierarchy.specs.Texts.{HierarchyRead, MappingRead, MappingsRead, NamedRead, SystemsRead}
use Rattle.sp_hierarchy.specs.declared.judging.Hierarchy.{Hierarchy}
use Rattle.sp_hierarchy.specs.declared.mappings.Mapped.{Mapped}
use Rattle.sp_hierarchy.specs.declared.members.Member.{Member}
use Rattle.sp_hierarchy.specs.declared.texts.HierarchyTexts.{HierarchyTexts}
use Rattle.sp_hierarchy.specs.declared.texts.NamedSystem.{NamedSystem}
use Rattle.sp_hierarchy.specs.declared.texts.RowMapping.{RowMapping}
use Rattle.sp_hierarchy.proofs.Places.{each_from, each_there}
use Rattle.sp_hierarchy_headline.specs.Hidden.{IsReadAs, names_of}

-- ---- the steps

pub record AreTexts (file : List ℕ) (files : Files) (t : HierarchyTexts) : Type 0 where
  pub hierarchy : TreeRead hierarchies file files (Ok t.hierarchy)
  pub interfaces : Each (λ name. NamedRead name files) (interface_names t.hierarchy.rows) (Ok t.interfaces)
  pub mappings : Each (λ row. MappingRead row files) t.hierarchy.rows (Ok t.mappings)

pub texts_read : (file : List ℕ) (files : Files) (t : HierarchyTexts) → HierarchyRead file files (Ok t) → AreTexts file files t
unfolding SystemsRead MappingsRead
texts_read file files t (Err r, first, rest) = absurd cc
texts_read file files t (Ok h, first, (Err r, second, rest)) = absurd cc
texts_read file files t (Ok h, first, (Ok xs, second, (Err r, third, rest))) = absurd cc
texts_read file files t (Ok h, first, (Ok xs, second, (Ok ms, third, rest))) =
    let is : t ≡ record { hierarchy = h; interfaces = xs; mappings = ms } = cc in
    subst (AreTexts file files) (sym is) (record { hierarchy = first; interfaces = second; mappings = third })

pub record AreJudged (t : HierarchyTexts) (h : Hierarchy) : Type 0 where
  pub members : MembersJudged t.interfaces (Ok h.members)
  pub mappings : MappingsJudged h.members t.mappings (Ok h.mappings)

pub texts_judged : (file : List ℕ) (t : HierarchyTexts) (h : Hierarchy) → HierarchyJudged file t (Ok h) → AreJudged t h
texts_judged file t h (Err r, first, rest) = absurd cc
texts_judged file t h (Ok u, first, (Err r, second, rest)) = absurd cc
texts_judged file t h (Ok u, first, (Ok ms, second, (Err r, third, rest))) = absurd cc
texts_judged file t h (Ok u, first, (Ok ms, second, (Ok ks, third, rest))) =
    let is : h ≡ record { members = ms; mappings = ks } = cc in
    subst (AreJudged t) (sym is) (record { members = second; mappings = third })

name_is : (file : List ℕ) (x : Ident) (name : List ℕ) (u : Unit {0}) → NameIs file x name (Ok u) → x.name ≡ name
name_is file x name u (inl (is, e)) = is
name_is file x name u (inr (other, e)) = absurd cc

-- ---- interfaces

-- the texts of the interface were read and judged
pub record IsKnown (files : Files) (m : Member) : Type 0 where
  pub system : System
  pub read : SystemRead (interface_file m.name) files (Ok system)
  pub named : system.interface.name.name ≡ m.name
  pub judged : SystemJudged (interface_file m.name) system (Ok m.elaborated)

module _ (files : Files) where
  pub system_of : (name : List ℕ) (x : NamedSystem) → NamedRead name files (Ok x) → SystemRead (interface_file x.name) files (Ok x.system)
  system_of name x (Err r, first, rest) = absurd cc
  system_of name x (Ok s, first, rest) =
      let is : x ≡ record { name = name; system = s } = cc in
      subst (λ (y : NamedSystem). SystemRead (interface_file y.name) files (Ok y.system)) (sym is) first

  member_known : (x : NamedSystem) (m : Member) → SystemRead (interface_file x.name) files (Ok x.system) → MemberJudged x (Ok m) → IsKnown files m
  member_known x m read (Err r, first, rest) = absurd cc
  member_known x m read (Ok u, first, (Err r, second, rest)) = absurd cc
  member_known x m read (Ok u, first, (Ok e, second, rest)) =
      let is : m ≡ record { name = x.name; elaborated = e } = cc in
      subst (IsKnown files) (sym is) (record { system = x.system; read = read; named = name_is (interface_file x.name) x.system.interface.name x.name u first; judged = second })

  pub known_at : (file : List ℕ) (t : HierarchyTexts) (h : Hierarchy) → AreTexts file files t → AreJudged t h → (k : ℕ) (m : Member) → slice_get h.members k ≡ Some m → IsKnown files m
  known_at file t h texts judged k m e =
      let x = each_from MemberJudged t.interfaces h.members k m judged.members e in
      let name = each_from (λ n. NamedRead n files) (interface_names t.hierarchy.rows) t.interfaces k x.0 texts.interfaces x.1 in
      member_known x.0 m (system_of name.0 x.0 name.2) x.2

module _ (file : List ℕ) (x : System) where
  never_faulty : (name : List ℕ) (t : TextFault) (e : Elaborated) → IsFaulty x.interface name t (Ok e) → ⊥
  never_faulty name (fault.Malformed m) e h = absurd cc
  never_faulty name (fault.Limit l) e h = absurd cc
  never_faulty name fault.Memory e h = h

  scopes_by : (e : Elaborated) (answer : Result (Parts × Scopes) SpecFault) → Elaborates x.interface x.modules answer → IsFiled file x.interface answer (Ok e) → e.scopes ≡ names_of x
  scopes_by e (Ok r) h f =
      let same : e ≡ record { spec = r.0; scopes = r.1 } = cc in
      ap (λ (y : Elaborated). y.scopes) same ∙ h.judges.1.scopes
  scopes_by e (Err g) h f = absurd (never_faulty (file_of file x.interface g.file) g.fault e f)

  scopes_are : (e : Elaborated) → SystemJudged file x (Ok e) → e.scopes ≡ names_of x
  scopes_are e (Err r, j, h) = absurd cc
  scopes_are e (Ok d, j, (Err r, s, h)) = absurd cc
  scopes_are e (Ok d, j, (Ok i, s, h)) =
      let same : e ≡ d = cc in
      ap (λ (y : Elaborated). y.scopes) same ∙ scopes_by d j.0 j.1 j.2

module _ (files : Files) (m : Member) (known : IsKnown files m) where
  only : IsOnlySpec known.system.interface known.system.modules m.elaborated.spec
  only = (judged_by (interface_file m.name) known.system m.elaborated known.judged.0 known.judged.1 known.judged.2).meant

  pub names_plain : HasPlainNames m.elaborated.spec
  names_plain = system_names files (interface_file m.name) known.system m.elaborated known.read known.judged

  pub spec_name : m.elaborated.spec.name ≡ m.name
  spec_name = only.meant.meant.name ∙ known.named

  pub scopes_known : m.elaborated.scopes ≡ names_of known.system
  scopes_known = scopes_are (interface_file m.name) known.system m.elaborated known.judged

  pub read_as : (name : List ℕ) → m.name ≡ name → IsReadAs name files known.system m.elaborated.spec
  read_as name e = record {
    read = subst (λ n. SystemRead (interface_file n) files (Ok known.system)) e known.read;
    named = known.named ∙ e;
    meant = only;
  }

module _ (files : Files) where
  same_elaborated : (name : List ℕ) (s t : System) (d e : Elaborated) → SystemRead (interface_file name) files (Ok s) → SystemRead (interface_file name) files (Ok t)
      → SystemJudged (interface_file name) s (Ok d) → SystemJudged (interface_file name) t (Ok e) → d ≡ e
  same_elaborated name s t d e p q j k =
      let one : ◌≡◌ {A = Result System Refusal} (Ok s) (Ok t) = (read_lawful files (interface_file name)).once (Ok s) (Ok t) p q in
      let system : s ≡ t = cc in
      let two : ◌≡◌ {A = Result Elaborated Refusal} (Ok d) (Ok e) =
      (judged_system_lawful files (interface_file name) t).once (Ok d) (Ok e) (subst (λ x. SystemJudged (interface_file name) x (Ok d)) system j) k in
      cc

  -- there is one interface of a name
  pub same_member : (a b : Member) → IsKnown files a → IsKnown files b → a.name ≡ b.name → a ≡ b
  same_member a b h k e =
      let both : a.elaborated ≡ b.elaborated =
      same_elaborated b.name h.system k.system a.elaborated b.elaborated (subst (λ n. SystemRead (interface_file n) files (Ok h.system)) e h.read) k.read
      (subst (λ n. SystemJudged (interface_file n) h.system (Ok a.elaborated)) e h.judged) k.judged in
      alike a.name b.name a.elaborated b.elaborated e both
    where
      alike : (x y : List ℕ) (d e : Elaborated) → x ≡ y → d ≡ e → ◌≡◌ {A = Member} (record { name = x; elaborated = d }) (record { name = y; elaborated = e })
      alike x y d e p q = ap (λ n. record { name = n; elaborated = d }) p ∙ ap (λ r. record { name = y; elaborated = r }) q

-- ---- mappings

-- the text of the row's mapping was read and judged between these interfaces
pub record IsKnownMapping (files : Files) (ms : List Member) (row : Ident × Ident × Ident) (k : Mapped) : Type 0 where
  pub text : MappingTree
  pub read : TreeRead mappings (mapping_file row.2.name) files (Ok text)
  pub named : text.name.name ≡ row.2.name
  pub from : text.upper.name ≡ row.0.name
  pub to : text.lower.name ≡ row.1.name
  pub place : ℕ
  pub above : Member
  pub below : Member
  pub above_at : slice_get ms place ≡ Some above
  pub below_at : slice_get ms k.lower ≡ Some below
  pub above_name : above.name ≡ row.0.name
  pub below_name : below.name ≡ row.1.name
  pub unbroken : mapping_broken above.elaborated.spec below.elaborated.spec below.elaborated.scopes text ≡ []
  pub meant : k.mapping ≡ mapping_of above.elaborated.spec below.elaborated.spec below.elaborated.scopes text

pub record IsRowRead (files : Files) (row : Ident × Ident × Ident) (r : RowMapping) : Type 0 where
  pub upper : r.upper ≡ row.0.name
  pub lower : r.lower ≡ row.1.name
  pub name : r.name ≡ row.2.name
  pub read : TreeRead mappings (mapping_file row.2.name) files (Ok r.tree)

pub row_read : (files : Files) (row : Ident × Ident × Ident) (r : RowMapping) → MappingRead row files (Ok r) → IsRowRead files row r
row_read files row r (Err f, first, rest) = absurd cc
row_read files row r (Ok t, first, rest) =
    let is : r ≡ record { upper = row.0.name; lower = row.1.name; name = row.2.name; tree = t } = cc in
    subst (IsRowRead files row) (sym is) (record { upper = refl; lower = refl; name = refl; read = first })

record HasRowNames (r : RowMapping) : Type 0 where
  pub own : r.tree.name.name ≡ r.name
  pub upper : r.tree.upper.name ≡ r.upper
  pub lower : r.tree.lower.name ≡ r.lower

row_names : (r : RowMapping) (u : Unit {0}) → MappingNamed r (Ok u) → HasRowNames r
row_names r u (Err f, own, rest) = absurd cc
row_names r u (Ok a, own, (Err f, up, rest)) = absurd cc
row_names r u (Ok a, own, (Ok b, up, low)) = record {
  own = name_is (mapping_file r.name) r.tree.name r.name a own;
  upper = name_is (mapping_file r.name) r.tree.upper r.upper b up;
  lower = name_is (mapping_file r.name) r.tree.lower r.lower u low;
}

placed_at : (ms : List Member) (file : List ℕ) (x : Ident) (o : Option ℕ) (u : ℕ) → place_of ms x.name ≡ o → Ok u ≡ placed file x o → place_of ms x.name ≡ Some u
placed_at ms file x None u e h = absurd cc
placed_at ms file x (Some k) u e h = let is : k ≡ u = cc in e ∙ ap Some is

named_at : (ms : List Member) (file : List ℕ) (x : Ident) (u : ℕ) (a : Member) → Placed ms file x (Ok u) → slice_get ms u ≡ Some a → a.name ≡ x.name
named_at ms file x u a h at =
    let found = placed_at ms file x (place_of ms x.name) u refl h in
    let test = (position-Some (λ (m : Member). bytes_eq m.name x.name) ms u a found).1 in
    (bytes_eq-Decides _ _).0 (subst (λ (m : Member). bytes_eq m.name x.name ≡ true) (get_or_from_slice_get ms u a a at) test)

record IsMade (a b : Option Member) (t : MappingTree) (m : Mapping) : Type 0 where
  pub above : Member
  pub below : Member
  pub above_is : a ≡ Some above
  pub below_is : b ≡ Some below
  pub unbroken : mapping_broken above.elaborated.spec below.elaborated.spec below.elaborated.scopes t ≡ []
  pub meant : m ≡ mapping_of above.elaborated.spec below.elaborated.spec below.elaborated.scopes t

made_by : (file : List ℕ) (t : MappingTree) (a b : Option Member) (m : Mapping) (answer : Result Mapping TextFault) → MadeBetween a b t answer → IsNamed file answer (Ok m) → IsMade a b t m
made_by file t (Some a) (Some b) m (Ok n) h e =
    let same : m ≡ n = cc in
    record { above = a; below = b; above_is = refl; below_is = refl; unbroken = h.0; meant = same ∙ h.1.meant }
made_by file t (Some a) (Some b) m (Err (fault.Malformed f)) h e = absurd cc
made_by file t (Some a) (Some b) m (Err (fault.Limit f)) h e = absurd cc
made_by file t (Some a) (Some b) m (Err fault.Memory) h e = absurd e
made_by file t (Some a) None m answer h e = absurd h
made_by file t None b m answer h e = absurd h

module _ (files : Files) (ms : List Member) where
  made_known : (row : Ident × Ident × Ident) (r : RowMapping) (u l : ℕ) (m : Mapping) → IsRowRead files row r → HasRowNames r → Placed ms (mapping_file r.name) r.tree.upper (Ok u)
      → Placed ms (mapping_file r.name) r.tree.lower (Ok l) → MappingMade ms r u l (Ok m) → IsKnownMapping files ms row (record { lower = l; mapping = m })
  made_known row r u l m read names up low made =
      let x = made_by (mapping_file r.name) r.tree (slice_get ms u) (slice_get ms l) m made.0 made.1 made.2 in
      let from = names.upper ∙ read.upper in
      let to = names.lower ∙ read.lower in
      record {
        text = r.tree;
        read = read.read;
        named = names.own ∙ read.name;
        from = from;
        to = to;
        place = u;
        above = x.above;
        below = x.below;
        above_at = x.above_is;
        below_at = x.below_is;
        above_name = named_at ms (mapping_file r.name) r.tree.upper u x.above up x.above_is ∙ from;
        below_name = named_at ms (mapping_file r.name) r.tree.lower l x.below low x.below_is ∙ to;
        unbroken = x.unbroken;
        meant = x.meant;
      }

  mapping_known : (row : Ident × Ident × Ident) (r : RowMapping) (k : Mapped) → IsRowRead files row r → MappingJudged ms r (Ok k) → IsKnownMapping files ms row k
  mapping_known row r k read (Err f, named, rest) = absurd cc
  mapping_known row r k read (Ok n, named, (Err f, up, rest)) = absurd cc
  mapping_known row r k read (Ok n, named, (Ok u, up, (Err f, low, rest))) = absurd cc
  mapping_known row r k read (Ok n, named, (Ok u, up, (Ok l, low, (Err f, made, rest)))) = absurd cc
  mapping_known row r k read (Ok n, named, (Ok u, up, (Ok l, low, (Ok m, made, rest)))) =
      let is : k ≡ record { lower = l; mapping = m } = cc in
      subst (IsKnownMapping files ms row) (sym is) (made_known row r u l m read (row_names r n named) up low made)

-- the row of a mapping, and what is known of it
pub record HasRow (files : Files) (t : HierarchyTexts) (h : Hierarchy) (k : ℕ) (m : Mapped) : Type 0 where
  pub row : Ident × Ident × Ident
  pub row_at : slice_get t.hierarchy.rows k ≡ Some row
  pub known : IsKnownMapping files h.members row m

pub mapping_at : (file : List ℕ) (files : Files) (t : HierarchyTexts) (h : Hierarchy) → AreTexts file files t → AreJudged t h → (k : ℕ) (m : Mapped) → slice_get h.mappings k ≡ Some m → HasRow files t h k m
mapping_at file files t h texts judged k m e =
    let r = each_from (MappingJudged h.members) t.mappings h.mappings k m judged.mappings e in
    let row = each_from (λ x. MappingRead x files) t.hierarchy.rows t.mappings k r.0 texts.mappings r.1 in
    record { row = row.0; row_at = row.1; known = mapping_known files h.members row.0 r.0 m (row_read files row.0 r.0 row.2) r.2 }

-- and the mapping of each row
pub known_row : (file : List ℕ) (files : Files) (t : HierarchyTexts) (h : Hierarchy) → AreTexts file files t → AreJudged t h → (k : ℕ) (row : Ident × Ident × Ident) → slice_get t.hierarchy.rows k ≡ Some row
    → (m : Mapped) × IsKnownMapping files h.members row m
known_row file files t h texts judged k row e =
    let r = each_there (λ x. MappingRead x files) t.hierarchy.rows t.mappings k row texts.mappings e in
    let m = each_there (MappingJudged h.members) t.mappings h.mappings k r.0 judged.mappings r.1 in
    (m.0, mapping_known files h.members row r.0 m.0 (row_read files row r.0 r.2) m.2)
