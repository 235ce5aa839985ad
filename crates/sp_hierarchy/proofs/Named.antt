-- The names of a hierarchy's interfaces are UTF-8, and each judged interface has the names that its specification stands for.
use Rattle.std.proofs.Common.{◌≡◌, ◌∙◌, ℕ, Bool, true, false, List, [], ◌∷◌, ◌++◌, Result, Ok, Err, ap, refl, sym, subst}
use Rattle.std.specs.Prelude.{if◌then◌else◌}
use Rattle.std.specs.List.{All, list_any}
use Rattle.std.specs.Str.{IsUtf8, bytes_eq}
use Rattle.std.proofs.lemmas.List.Elements.{All-append, All-cons, All-head, All-nil, All-tail}
use Rattle.sp_text.specs.declared.fault.SpecFault.{SpecFault}
use Rattle.sp_text.specs.declared.fault.TextFault.{TextFault}
use Rattle.sp_text.specs.declared.fault.TextFault.TheVariants as fault
use Rattle.sp_tree.specs.declared.names.Ident.{Ident}
use Rattle.sp_core.specs.Parts.{Parts}
use Rattle.sp_core.specs.WellFormed.{IsWellFormed}
use Rattle.sp_scopes.specs.declared.scopes.Scopes.{Scopes}
use Rattle.sp_specification.specs.Broken.{AreBroken}
use Rattle.sp_specification.specs.Meaning.{IsSpecOf}
use Rattle.sp_mapping_rules.specs.Lower.{AreNamesOf}
use Rattle.sp_frame.specs.declared.refusal.Refusal.{Refusal}
use Rattle.sp_hierarchy_rows.specs.Names.{interface_names, with_name, with_rows}
use Rattle.sp_system.specs.Interfaces.{Elaborates, IsFaulty, IsFiled, file_of}
use Rattle.sp_system.specs.System.{SystemJudged}
use Rattle.sp_system.specs.declared.interface.Elaborated.{Elaborated}
use Rattle.sp_system.specs.declared.system.System.{System}

-- ---- names of files

abbrev pub IsRowText : Ident × Ident × Ident → Type 0
IsRowText row = IsUtf8 row.0.name × IsUtf8 row.1.name × IsUtf8 row.2.name

with_name_text : (names : List (List ℕ)) (x : List ℕ) → All IsUtf8 names → IsUtf8 x → All IsUtf8 (with_name names x)
with_name_text names x all one = by (list_any (λ y. bytes_eq y x) names)
  where
    by : (b : Bool) → All IsUtf8 (if b then names else names ++ x ∷ [])
    by true = all
    by false = All-append IsUtf8 names (x ∷ []) all (All-cons IsUtf8 x [] one (All-nil IsUtf8))

with_rows_text : (names : List (List ℕ)) (rows : List (Ident × Ident × Ident)) → All IsUtf8 names → All IsRowText rows → All IsUtf8 (with_rows names rows)
with_rows_text names [] all h = all
with_rows_text names (row ∷ rows) all h =
    let own = All-head IsRowText row rows h in
    with_rows_text (with_name (with_name names row.0.name) row.1.name) rows
    (with_name_text (with_name names row.0.name) row.1.name (with_name_text names row.0.name all own.0) own.1) (All-tail IsRowText row rows h)

pub names_text : (rows : List (Ident × Ident × Ident)) → All IsRowText rows → All IsUtf8 (interface_names rows)
names_text rows h = with_rows_text [] rows (All-nil IsUtf8) h

-- ---- names of a specification, which is well-formed

module _ (file : List ℕ) (x : System) where
  never_faulty : (name : List ℕ) (t : TextFault) (e : Elaborated) → IsFaulty x.interface name t (Ok e) → ⊥
  never_faulty name (fault.Malformed m) e h = absurd cc
  never_faulty name (fault.Limit l) e h = absurd cc
  never_faulty name fault.Memory e h = h

  named_by : (e : Elaborated) (answer : Result (Parts × Scopes) SpecFault) → Elaborates x.interface x.modules answer → IsFiled file x.interface answer (Ok e) → AreNamesOf e.spec e.scopes
  named_by e (Ok r) h f =
      let same : e ≡ record { spec = r.0; scopes = r.1 } = cc in
      subst (λ (y : Elaborated). AreNamesOf y.spec y.scopes) (sym same) record {
        tree = x.interface;
        modules = x.modules;
        nothing = subst (AreBroken x.interface x.modules) h.judges.0 h.broken.broken;
        spec = h.judges.1.spec.meant;
        names = h.judges.1.scopes;
      }
  named_by e (Err g) h f = absurd (never_faulty (file_of file x.interface g.file) g.fault e f)

  pub names_of : (e : Elaborated) → SystemJudged file x (Ok e) → AreNamesOf e.spec e.scopes
  names_of e (Err r, j, h) = absurd cc
  names_of e (Ok d, j, (Err r, s, h)) = absurd cc
  names_of e (Ok d, j, (Ok i, s, h)) =
      let same : e ≡ d = cc in
      subst (λ (y : Elaborated). AreNamesOf y.spec y.scopes) (sym same) (named_by d j.0 j.1 j.2)

  formed_by : (e : Elaborated) (answer : Result (Parts × Scopes) SpecFault) → Elaborates x.interface x.modules answer → IsFiled file x.interface answer (Ok e) → IsWellFormed e.spec
  formed_by e (Ok r) h f =
      let same : e ≡ record { spec = r.0; scopes = r.1 } = cc in
      subst (λ (y : Elaborated). IsWellFormed y.spec) (sym same) h.judges.1.spec.well_formed
  formed_by e (Err g) h f = absurd (never_faulty (file_of file x.interface g.file) g.fault e f)

  pub formed_of : (e : Elaborated) → SystemJudged file x (Ok e) → IsWellFormed e.spec
  formed_of e (Err r, j, h) = absurd cc
  formed_of e (Ok d, j, (Err r, s, h)) = absurd cc
  formed_of e (Ok d, j, (Ok i, s, h)) =
      let same : e ≡ d = cc in
      subst (λ (y : Elaborated). IsWellFormed y.spec) (sym same) (formed_by d j.0 j.1 j.2)
