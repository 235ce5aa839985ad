-- Each command takes as many plain words as it has arguments, and gives each argument its word.
use Rattle.std.proofs.Common.{◌≡◌, ◌∙◌, ℕ, List, [], ◌∷◌, Some, None, Option, refl, sym, ap, codes, length, map, true, false, arith}
use Rattle.std.specs.List.{list_all}
use Rattle.clap.specs.Faults.{level_fault, step_fault}
use Rattle.clap.specs.Simple.{App, Shape, built_leaf, inherited, marked_built, with_leaf_noted}
use Rattle.clap.specs.Walk.{Held, Text, finished, nothing_held, rows_after, value}
use Rattle.clap.specs.Words.{first_of}
use Rattle.clap.specs.declared.error.kind.ErrorKind.TheVariants as kind
use Rattle.clap.proofs.OnLiterals.{clap_on_literals}
use Rattle.clap.proofs.WalkLemmas.{both}
use Rattle.sp_words.specs.App.{four_words, named_word, special_app, three_words, two_words}
use Rattle.sp_words.specs.Verb.{four_arguments, three_arguments, two_arguments}
use Rattle.sp_words.specs.Words.{is_plain}
use Rattle.sp_words.proofs.Walks.{IsNoFlag, Walks, at, ends, go, held_after, leaf_from, plain_no_flag, stay, strays}

-- the subcommand as it is built below the program's command
abbrev pub leaf_of : App → Shape
leaf_of a = built_leaf (inherited (with_leaf_noted (marked_built special_app.top)) a.top)

-- what is held after some words
abbrev h1 : Shape → Text → Held
h1 s a = held_after s 1 a nothing_held

abbrev h2 : Shape → Text → Text → Held
h2 s a b = held_after s 2 b (h1 s a)

abbrev h3 : Shape → Text → Text → Text → Held
h3 s a b c = held_after s 3 c (h2 s a b)

abbrev h4 : Shape → Text → Text → Text → Text → Held
h4 s a b c d = held_after s 4 d (h3 s a b c)

-- as many plain words as arguments are taken, others aren't
pub record Takes (s : Shape) (ids : List Text) : Type 0 where
  pub right : (ws : List Text) → list_all is_plain ws ≡ true → length ws ≡ length ids → level_fault s [] nothing_held ws false [] ≡ []
  pub given : (ws : List Text) → list_all is_plain ws ≡ true → level_fault s [] nothing_held ws false [] ≡ []
      → map (λ id. first_of id (rows_after s.rules [] ws)) ids ≡ map Some ws

-- what a command with one argument takes
pub data Sole : Type 0 where
  an_interface : Sole
  a_hierarchy : Sole
  a_size : Sole

abbrev pub id_of : Sole → Text
id_of an_interface = codes "I"
id_of a_hierarchy = codes "H"
id_of a_size = codes "N"

-- one word

module _ (sole : Sole) (name : Text) where
  abbrev s1 : Shape
  s1 = leaf_of (named_word (id_of sole) name)

module _ (name : Text) where
  walks10 : (sole : Sole) → Walks (s1 sole name) nothing_held 1 [] nothing_held 1
  unfolding clap_on_literals
  walks10 sole = stay (s1 sole name) nothing_held 1

  end10 : (sole : Sole) → leaf_from (s1 sole name) (at nothing_held 1) [] ≡ kind.MissingRequiredArgument ∷ []
  unfolding clap_on_literals
  end10 an_interface = refl
  end10 a_hierarchy = refl
  end10 a_size = refl

  walks11 : (sole : Sole) (a : Text) (p : IsNoFlag a) → Walks (s1 sole name) nothing_held 1 (a ∷ []) (h1 (s1 sole name) a) 2
  unfolding clap_on_literals
  walks11 an_interface a p = let s : Shape = s1 an_interface name in go s nothing_held 1 a [] (h1 s a) 2 p refl refl (stay s (h1 s a) 2)
  walks11 a_hierarchy a p = let s : Shape = s1 a_hierarchy name in go s nothing_held 1 a [] (h1 s a) 2 p refl refl (stay s (h1 s a) 2)
  walks11 a_size a p = let s : Shape = s1 a_size name in go s nothing_held 1 a [] (h1 s a) 2 p refl refl (stay s (h1 s a) 2)

  end11 : (sole : Sole) (a : Text) → leaf_from (s1 sole name) (at (h1 (s1 sole name) a) 2) [] ≡ []
  unfolding clap_on_literals
  end11 an_interface a = refl
  end11 a_hierarchy a = refl
  end11 a_size a = refl

  stray1 : (sole : Sole) (a : Text) → step_fault (s1 sole name) 2 (h1 (s1 sole name) a) value ≡ kind.UnknownArgument ∷ []
  unfolding clap_on_literals
  stray1 an_interface a = refl
  stray1 a_hierarchy a = refl
  stray1 a_size a = refl

  values1 : (sole : Sole) (a : Text) → map (λ id. first_of id (finished (s1 sole name).rules (h1 (s1 sole name) a))) (id_of sole ∷ []) ≡ map Some (a ∷ [])
  unfolding clap_on_literals
  values1 an_interface a = refl
  values1 a_hierarchy a = refl
  values1 a_size a = refl

module _ (sole : Sole) (name : Text) where
  abbrev one : Shape
  one = s1 sole name

  right1 : (ws : List Text) → list_all is_plain ws ≡ true → length ws ≡ 1 → level_fault one [] nothing_held ws false [] ≡ []
  right1 [] p e = absurd (omega arith)
  right1 (a ∷ []) p e = ends one (a ∷ []) (h1 one a) 2 (walks11 name sole a (plain_no_flag a (both _ _ p).0)) ∙ end11 name sole a
  right1 (a ∷ x ∷ rest) p e = absurd (omega arith)

  given1 : (ws : List Text) → list_all is_plain ws ≡ true → level_fault one [] nothing_held ws false [] ≡ []
      → map (λ id. first_of id (rows_after one.rules [] ws)) (id_of sole ∷ []) ≡ map Some ws
  given1 [] p e =
      let bad : kind.MissingRequiredArgument ∷ [] ≡ [] = sym (ends one [] nothing_held 1 (walks10 name sole) ∙ end10 name sole) ∙ e in cc
  given1 (a ∷ []) p e = ap (λ w. map (λ id. first_of id (finished one.rules w.held)) (id_of sole ∷ [])) (walks11 name sole a (plain_no_flag a (both _ _ p).0)).walk ∙ values1 name sole a
  given1 (a ∷ x ∷ rest) p e =
      let bad : kind.UnknownArgument ∷ [] ≡ [] = sym (strays one (a ∷ []) (h1 one a) 2 x rest (walks11 name sole a (plain_no_flag a (both _ _ p).0)) (plain_no_flag x (both _ _ (both (is_plain a) _ p).1).0) (stray1 name sole a)) ∙ e in cc

  pub takes_one : Takes one (id_of sole ∷ [])
  takes_one = record { right = right1; given = given1 }

-- two words

module _ (name : Text) where
  abbrev s2 : Shape
  s2 = leaf_of (two_words name)

  walks20 : Walks s2 nothing_held 1 [] nothing_held 1
  unfolding clap_on_literals
  walks20 = stay s2 nothing_held 1

  end20 : leaf_from s2 (at nothing_held 1) [] ≡ kind.MissingRequiredArgument ∷ []
  unfolding clap_on_literals
  end20 = refl

  walks21 : (a : Text) (p : IsNoFlag a) → Walks s2 nothing_held 1 (a ∷ []) (h1 s2 a) 2
  unfolding clap_on_literals
  walks21 a p = go s2 nothing_held 1 a [] (h1 s2 a) 2 p refl refl (stay s2 (h1 s2 a) 2)

  end21 : (a : Text) → leaf_from s2 (at (h1 s2 a) 2) [] ≡ kind.MissingRequiredArgument ∷ []
  unfolding clap_on_literals
  end21 a = refl

  walks22 : (a : Text) (b : Text) (p : IsNoFlag a) (q : IsNoFlag b) → Walks s2 nothing_held 1 (a ∷ b ∷ []) (h2 s2 a b) 3
  unfolding clap_on_literals
  walks22 a b p q = go s2 nothing_held 1 a (b ∷ []) (h2 s2 a b) 3 p refl refl (go s2 (h1 s2 a) 2 b [] (h2 s2 a b) 3 q refl refl (stay s2 (h2 s2 a b) 3))

  end22 : (a : Text) (b : Text) → leaf_from s2 (at (h2 s2 a b) 3) [] ≡ []
  unfolding clap_on_literals
  end22 a b = refl

  stray2 : (a : Text) (b : Text) → step_fault s2 3 (h2 s2 a b) value ≡ kind.UnknownArgument ∷ []
  unfolding clap_on_literals
  stray2 a b = refl

  values2 : (a : Text) (b : Text) → map (λ id. first_of id (finished s2.rules (h2 s2 a b))) two_arguments ≡ map Some (a ∷ b ∷ [])
  unfolding clap_on_literals
  values2 a b = refl

  right2 : (ws : List Text) → list_all is_plain ws ≡ true → length ws ≡ 2 → level_fault s2 [] nothing_held ws false [] ≡ []
  right2 [] p e = absurd (omega arith)
  right2 (a ∷ []) p e = absurd (omega arith)
  right2 (a ∷ b ∷ []) p e = ends s2 (a ∷ b ∷ []) (h2 s2 a b) 3 (walks22 a b (plain_no_flag a (both _ _ p).0) (plain_no_flag b (both _ _ (both (is_plain a) _ p).1).0)) ∙ end22 a b
  right2 (a ∷ b ∷ x ∷ rest) p e = absurd (omega arith)

  given2 : (ws : List Text) → list_all is_plain ws ≡ true → level_fault s2 [] nothing_held ws false [] ≡ []
      → map (λ id. first_of id (rows_after s2.rules [] ws)) two_arguments ≡ map Some ws
  given2 [] p e =
      let bad : kind.MissingRequiredArgument ∷ [] ≡ [] = sym (ends s2 [] nothing_held 1 (walks20) ∙ end20) ∙ e in cc
  given2 (a ∷ []) p e =
      let bad : kind.MissingRequiredArgument ∷ [] ≡ [] = sym (ends s2 (a ∷ []) (h1 s2 a) 2 (walks21 a (plain_no_flag a (both _ _ p).0)) ∙ end21 a) ∙ e in cc
  given2 (a ∷ b ∷ []) p e = ap (λ w. map (λ id. first_of id (finished s2.rules w.held)) two_arguments) (walks22 a b (plain_no_flag a (both _ _ p).0) (plain_no_flag b (both _ _ (both (is_plain a) _ p).1).0)).walk ∙ values2 a b
  given2 (a ∷ b ∷ x ∷ rest) p e =
      let bad : kind.UnknownArgument ∷ [] ≡ [] = sym (strays s2 (a ∷ b ∷ []) (h2 s2 a b) 3 x rest (walks22 a b (plain_no_flag a (both _ _ p).0) (plain_no_flag b (both _ _ (both (is_plain a) _ p).1).0)) (plain_no_flag x (both _ _ (both (is_plain b) _ (both (is_plain a) _ p).1).1).0) (stray2 a b)) ∙ e in cc

  pub takes_two : Takes s2 two_arguments
  takes_two = record { right = right2; given = given2 }

-- three words

module _ (name : Text) where
  abbrev s3 : Shape
  s3 = leaf_of (three_words name)

  walks30 : Walks s3 nothing_held 1 [] nothing_held 1
  unfolding clap_on_literals
  walks30 = stay s3 nothing_held 1

  end30 : leaf_from s3 (at nothing_held 1) [] ≡ kind.MissingRequiredArgument ∷ []
  unfolding clap_on_literals
  end30 = refl

  walks31 : (a : Text) (p : IsNoFlag a) → Walks s3 nothing_held 1 (a ∷ []) (h1 s3 a) 2
  unfolding clap_on_literals
  walks31 a p = go s3 nothing_held 1 a [] (h1 s3 a) 2 p refl refl (stay s3 (h1 s3 a) 2)

  end31 : (a : Text) → leaf_from s3 (at (h1 s3 a) 2) [] ≡ kind.MissingRequiredArgument ∷ []
  unfolding clap_on_literals
  end31 a = refl

  walks32 : (a : Text) (b : Text) (p : IsNoFlag a) (q : IsNoFlag b) → Walks s3 nothing_held 1 (a ∷ b ∷ []) (h2 s3 a b) 3
  unfolding clap_on_literals
  walks32 a b p q = go s3 nothing_held 1 a (b ∷ []) (h2 s3 a b) 3 p refl refl (go s3 (h1 s3 a) 2 b [] (h2 s3 a b) 3 q refl refl (stay s3 (h2 s3 a b) 3))

  end32 : (a : Text) (b : Text) → leaf_from s3 (at (h2 s3 a b) 3) [] ≡ kind.MissingRequiredArgument ∷ []
  unfolding clap_on_literals
  end32 a b = refl

  walks33 : (a : Text) (b : Text) (c : Text) (p : IsNoFlag a) (q : IsNoFlag b) (r : IsNoFlag c) → Walks s3 nothing_held 1 (a ∷ b ∷ c ∷ []) (h3 s3 a b c) 4
  unfolding clap_on_literals
  walks33 a b c p q r = go s3 nothing_held 1 a (b ∷ c ∷ []) (h3 s3 a b c) 4 p refl refl (go s3 (h1 s3 a) 2 b (c ∷ []) (h3 s3 a b c) 4 q refl refl (go s3 (h2 s3 a b) 3 c [] (h3 s3 a b c) 4 r refl refl (stay s3 (h3 s3 a b c) 4)))

  end33 : (a : Text) (b : Text) (c : Text) → leaf_from s3 (at (h3 s3 a b c) 4) [] ≡ []
  unfolding clap_on_literals
  end33 a b c = refl

  stray3 : (a : Text) (b : Text) (c : Text) → step_fault s3 4 (h3 s3 a b c) value ≡ kind.UnknownArgument ∷ []
  unfolding clap_on_literals
  stray3 a b c = refl

  values3 : (a : Text) (b : Text) (c : Text) → map (λ id. first_of id (finished s3.rules (h3 s3 a b c))) three_arguments ≡ map Some (a ∷ b ∷ c ∷ [])
  unfolding clap_on_literals
  values3 a b c = refl

  right3 : (ws : List Text) → list_all is_plain ws ≡ true → length ws ≡ 3 → level_fault s3 [] nothing_held ws false [] ≡ []
  right3 [] p e = absurd (omega arith)
  right3 (a ∷ []) p e = absurd (omega arith)
  right3 (a ∷ b ∷ []) p e = absurd (omega arith)
  right3 (a ∷ b ∷ c ∷ []) p e = ends s3 (a ∷ b ∷ c ∷ []) (h3 s3 a b c) 4 (walks33 a b c (plain_no_flag a (both _ _ p).0) (plain_no_flag b (both _ _ (both (is_plain a) _ p).1).0) (plain_no_flag c (both _ _ (both (is_plain b) _ (both (is_plain a) _ p).1).1).0)) ∙ end33 a b c
  right3 (a ∷ b ∷ c ∷ x ∷ rest) p e = absurd (omega arith)

  given3 : (ws : List Text) → list_all is_plain ws ≡ true → level_fault s3 [] nothing_held ws false [] ≡ []
      → map (λ id. first_of id (rows_after s3.rules [] ws)) three_arguments ≡ map Some ws
  given3 [] p e =
      let bad : kind.MissingRequiredArgument ∷ [] ≡ [] = sym (ends s3 [] nothing_held 1 (walks30) ∙ end30) ∙ e in cc
  given3 (a ∷ []) p e =
      let bad : kind.MissingRequiredArgument ∷ [] ≡ [] = sym (ends s3 (a ∷ []) (h1 s3 a) 2 (walks31 a (plain_no_flag a (both _ _ p).0)) ∙ end31 a) ∙ e in cc
  given3 (a ∷ b ∷ []) p e =
      let bad : kind.MissingRequiredArgument ∷ [] ≡ [] = sym (ends s3 (a ∷ b ∷ []) (h2 s3 a b) 3 (walks32 a b (plain_no_flag a (both _ _ p).0) (plain_no_flag b (both _ _ (both (is_plain a) _ p).1).0)) ∙ end32 a b) ∙ e in cc
  given3 (a ∷ b ∷ c ∷ []) p e = ap (λ w. map (λ id. first_of id (finished s3.rules w.held)) three_arguments) (walks33 a b c (plain_no_flag a (both _ _ p).0) (plain_no_flag b (both _ _ (both (is_plain a) _ p).1).0) (plain_no_flag c (both _ _ (both (is_plain b) _ (both (is_plain a) _ p).1).1).0)).walk ∙ values3 a b c
  given3 (a ∷ b ∷ c ∷ x ∷ rest) p e =
      let bad : kind.UnknownArgument ∷ [] ≡ [] = sym (strays s3 (a ∷ b ∷ c ∷ []) (h3 s3 a b c) 4 x rest (walks33 a b c (plain_no_flag a (both _ _ p).0) (plain_no_flag b (both _ _ (both (is_plain a) _ p).1).0) (plain_no_flag c (both _ _ (both (is_plain b) _ (both (is_plain a) _ p).1).1).0)) (plain_no_flag x (both _ _ (both (is_plain c) _ (both (is_plain b) _ (both (is_plain a) _ p).1).1).1).0) (stray3 a b c)) ∙ e in cc

  pub takes_three : Takes s3 three_arguments
  takes_three = record { right = right3; given = given3 }

-- four words

module _ (name : Text) where
  abbrev s4 : Shape
  s4 = leaf_of (four_words name)

  walks40 : Walks s4 nothing_held 1 [] nothing_held 1
  unfolding clap_on_literals
  walks40 = stay s4 nothing_held 1

  end40 : leaf_from s4 (at nothing_held 1) [] ≡ kind.MissingRequiredArgument ∷ []
  unfolding clap_on_literals
  end40 = refl

  walks41 : (a : Text) (p : IsNoFlag a) → Walks s4 nothing_held 1 (a ∷ []) (h1 s4 a) 2
  unfolding clap_on_literals
  walks41 a p = go s4 nothing_held 1 a [] (h1 s4 a) 2 p refl refl (stay s4 (h1 s4 a) 2)

  end41 : (a : Text) → leaf_from s4 (at (h1 s4 a) 2) [] ≡ kind.MissingRequiredArgument ∷ []
  unfolding clap_on_literals
  end41 a = refl

  walks42 : (a : Text) (b : Text) (p : IsNoFlag a) (q : IsNoFlag b) → Walks s4 nothing_held 1 (a ∷ b ∷ []) (h2 s4 a b) 3
  unfolding clap_on_literals
  walks42 a b p q = go s4 nothing_held 1 a (b ∷ []) (h2 s4 a b) 3 p refl refl (go s4 (h1 s4 a) 2 b [] (h2 s4 a b) 3 q refl refl (stay s4 (h2 s4 a b) 3))

  end42 : (a : Text) (b : Text) → leaf_from s4 (at (h2 s4 a b) 3) [] ≡ kind.MissingRequiredArgument ∷ []
  unfolding clap_on_literals
  end42 a b = refl

  walks43 : (a : Text) (b : Text) (c : Text) (p : IsNoFlag a) (q : IsNoFlag b) (r : IsNoFlag c) → Walks s4 nothing_held 1 (a ∷ b ∷ c ∷ []) (h3 s4 a b c) 4
  unfolding clap_on_literals
  walks43 a b c p q r = go s4 nothing_held 1 a (b ∷ c ∷ []) (h3 s4 a b c) 4 p refl refl (go s4 (h1 s4 a) 2 b (c ∷ []) (h3 s4 a b c) 4 q refl refl (go s4 (h2 s4 a b) 3 c [] (h3 s4 a b c) 4 r refl refl (stay s4 (h3 s4 a b c) 4)))

  end43 : (a : Text) (b : Text) (c : Text) → leaf_from s4 (at (h3 s4 a b c) 4) [] ≡ kind.MissingRequiredArgument ∷ []
  unfolding clap_on_literals
  end43 a b c = refl

  walks44 : (a : Text) (b : Text) (c : Text) (d : Text) (p : IsNoFlag a) (q : IsNoFlag b) (r : IsNoFlag c) (s : IsNoFlag d) → Walks s4 nothing_held 1 (a ∷ b ∷ c ∷ d ∷ []) (h4 s4 a b c d) 5
  unfolding clap_on_literals
  walks44 a b c d p q r s = go s4 nothing_held 1 a (b ∷ c ∷ d ∷ []) (h4 s4 a b c d) 5 p refl refl (go s4 (h1 s4 a) 2 b (c ∷ d ∷ []) (h4 s4 a b c d) 5 q refl refl (go s4 (h2 s4 a b) 3 c (d ∷ []) (h4 s4 a b c d) 5 r refl refl (go s4 (h3 s4 a b c) 4 d [] (h4 s4 a b c d) 5 s refl refl (stay s4 (h4 s4 a b c d) 5))))

  end44 : (a : Text) (b : Text) (c : Text) (d : Text) → leaf_from s4 (at (h4 s4 a b c d) 5) [] ≡ []
  unfolding clap_on_literals
  end44 a b c d = refl

  stray4 : (a : Text) (b : Text) (c : Text) (d : Text) → step_fault s4 5 (h4 s4 a b c d) value ≡ kind.UnknownArgument ∷ []
  unfolding clap_on_literals
  stray4 a b c d = refl

  values4 : (a : Text) (b : Text) (c : Text) (d : Text) → map (λ id. first_of id (finished s4.rules (h4 s4 a b c d))) four_arguments ≡ map Some (a ∷ b ∷ c ∷ d ∷ [])
  unfolding clap_on_literals
  values4 a b c d = refl

  right4 : (ws : List Text) → list_all is_plain ws ≡ true → length ws ≡ 4 → level_fault s4 [] nothing_held ws false [] ≡ []
  right4 [] p e = absurd (omega arith)
  right4 (a ∷ []) p e = absurd (omega arith)
  right4 (a ∷ b ∷ []) p e = absurd (omega arith)
  right4 (a ∷ b ∷ c ∷ []) p e = absurd (omega arith)
  right4 (a ∷ b ∷ c ∷ d ∷ []) p e = ends s4 (a ∷ b ∷ c ∷ d ∷ []) (h4 s4 a b c d) 5 (walks44 a b c d (plain_no_flag a (both _ _ p).0) (plain_no_flag b (both _ _ (both (is_plain a) _ p).1).0) (plain_no_flag c (both _ _ (both (is_plain b) _ (both (is_plain a) _ p).1).1).0) (plain_no_flag d (both _ _ (both (is_plain c) _ (both (is_plain b) _ (both (is_plain a) _ p).1).1).1).0)) ∙ end44 a b c d
  right4 (a ∷ b ∷ c ∷ d ∷ x ∷ rest) p e = absurd (omega arith)

  given4 : (ws : List Text) → list_all is_plain ws ≡ true → level_fault s4 [] nothing_held ws false [] ≡ []
      → map (λ id. first_of id (rows_after s4.rules [] ws)) four_arguments ≡ map Some ws
  given4 [] p e =
      let bad : kind.MissingRequiredArgument ∷ [] ≡ [] = sym (ends s4 [] nothing_held 1 (walks40) ∙ end40) ∙ e in cc
  given4 (a ∷ []) p e =
      let bad : kind.MissingRequiredArgument ∷ [] ≡ [] = sym (ends s4 (a ∷ []) (h1 s4 a) 2 (walks41 a (plain_no_flag a (both _ _ p).0)) ∙ end41 a) ∙ e in cc
  given4 (a ∷ b ∷ []) p e =
      let bad : kind.MissingRequiredArgument ∷ [] ≡ [] = sym (ends s4 (a ∷ b ∷ []) (h2 s4 a b) 3 (walks42 a b (plain_no_flag a (both _ _ p).0) (plain_no_flag b (both _ _ (both (is_plain a) _ p).1).0)) ∙ end42 a b) ∙ e in cc
  given4 (a ∷ b ∷ c ∷ []) p e =
      let bad : kind.MissingRequiredArgument ∷ [] ≡ [] = sym (ends s4 (a ∷ b ∷ c ∷ []) (h3 s4 a b c) 4 (walks43 a b c (plain_no_flag a (both _ _ p).0) (plain_no_flag b (both _ _ (both (is_plain a) _ p).1).0) (plain_no_flag c (both _ _ (both (is_plain b) _ (both (is_plain a) _ p).1).1).0)) ∙ end43 a b c) ∙ e in cc
  given4 (a ∷ b ∷ c ∷ d ∷ []) p e = ap (λ w. map (λ id. first_of id (finished s4.rules w.held)) four_arguments) (walks44 a b c d (plain_no_flag a (both _ _ p).0) (plain_no_flag b (both _ _ (both (is_plain a) _ p).1).0) (plain_no_flag c (both _ _ (both (is_plain b) _ (both (is_plain a) _ p).1).1).0) (plain_no_flag d (both _ _ (both (is_plain c) _ (both (is_plain b) _ (both (is_plain a) _ p).1).1).1).0)).walk ∙ values4 a b c d
  given4 (a ∷ b ∷ c ∷ d ∷ x ∷ rest) p e =
      let bad : kind.UnknownArgument ∷ [] ≡ [] = sym (strays s4 (a ∷ b ∷ c ∷ d ∷ []) (h4 s4 a b c d) 5 x rest (walks44 a b c d (plain_no_flag a (both _ _ p).0) (plain_no_flag b (both _ _ (both (is_plain a) _ p).1).0) (plain_no_flag c (both _ _ (both (is_plain b) _ (both (is_plain a) _ p).1).1).0) (plain_no_flag d (both _ _ (both (is_plain c) _ (both (is_plain b) _ (both (is_plain a) _ p).1).1).1).0)) (plain_no_flag x (both _ _ (both (is_plain d) _ (both (is_plain c) _ (both (is_plain b) _ (both (is_plain a) _ p).1).1).1).1).0) (stray4 a b c d)) ∙ e in cc

  pub takes_four : Takes s4 four_arguments
  takes_four = record { right = right4; given = given4 }
