-- Steps that lack nothing, and the laws of the rules. Public: who speaks of steps goes on from here.
use Rattle.std.proofs.Common.{◌≡◌, ◌||◌, Bool, true, false, cond, Option, Some, None, refl, ap, ◌∙◌, inl, inr, ⊎_elim}
use Rattle.sp_rules.specs.Terms.{Terms, node_at}
use Rattle.sp_rules.specs.Table.{are_terms, is_formed, needs, unmet, lack_of, lack_of_need}
use Rattle.sp_rules.specs.Follows.{Follows, IsPremise, start, step}
use Rattle.sp_rules.specs.Laws.{IsClosed, AreIn, EachFollows}
use Rattle.sp_rules.specs.declared.fact.Fact.{Fact}
use Rattle.sp_rules.specs.declared.fact.Step.{Step}
use Rattle.sp_rules.specs.declared.fact.Lack.{Lack}
use Rattle.sp_rules.specs.declared.fact.Lack.TheVariants.{Number, Form}
use Rattle.sp_rules.specs.declared.fact.Needs.{Needs}
use Rattle.sp_rules.specs.declared.fact.Needs.TheVariants.{Nothing, One, Both, Either, Arguments}
use Rattle.sp_rules.proofs.ArgumentsApart.{each_there, none_of_all}

-- the same of a fact
abbrev no_fact : Option Fact
no_fact = None

-- `None`, where its type isn't told otherwise
abbrev pub no_lack : Option Lack
no_lack = None

module _ (ts : Terms) (h : Fact → Bool) where
  -- the needs on one side are there
  abbrev pub AreMet : Needs → Bool → Type 0
  AreMet n first = (f : Fact) → IsPremise ts n first f → h f ≡ true

  one_met : (f : Fact) (b : Bool) → h f ≡ b → cond b None (Some f) ≡ no_fact → h f ≡ true
  one_met f true t e = t
  one_met f false t e = absurd (cc)

  both_met : (f g : Fact) (b c : Bool) → h f ≡ b → h g ≡ c → cond b (cond c None (Some g)) (Some f) ≡ no_fact → (h f ≡ true) × (h g ≡ true)
  both_met f g true true s t e = (s, t)
  both_met f g true false s t e = absurd (cc)
  both_met f g false c s t e = absurd (cc)

  either_met : (f g : Fact) (b c : Bool) → h f ≡ b → h g ≡ c → cond (b || c) None (Some f) ≡ no_fact → (first : Bool) × (h (cond first f g) ≡ true)
  either_met f g true c s t e = (true, s)
  either_met f g false true s t e = (false, t)
  either_met f g false false s t e = absurd (cc)

  -- where no premise is missing, those of one side are there
  pub met : (n : Needs) → unmet ts h n ≡ no_fact → (first : Bool) × AreMet n first
  met Nothing e = (true, λ f p. absurd p)
  met (One a) e = (true, λ f p. ap h p ∙ one_met a (h a) refl e)
  met (Both a b) e =
      let m = both_met a b (h a) (h b) refl refl e in
      (true, λ f p. ⊎_elim (λ (s : f ≡ a). ap h s ∙ m.0) (λ (s : f ≡ b). ap h s ∙ m.1) p)
  met (Either a b) e = let m = either_met a b (h a) (h b) refl refl e in (m.0, λ f p. ap h p ∙ m.1)
  met (Arguments i j) e = (true, λ f p. ap h p.2 ∙ each_there ts h i j (node_at ts i).count e p.0 p.1)

  -- and the other way round
  pub unmet_none : (n : Needs) (first : Bool) → AreMet n first → unmet ts h n ≡ no_fact
  unmet_none Nothing first m = refl
  unmet_none (One a) first m = ap (λ x. cond x None (Some a)) (m a refl)
  unmet_none (Both a b) first m =
      ap (λ x. cond x (cond (h b) None (Some b)) (Some a)) (m a (inl refl)) ∙ ap (λ x. cond x None (Some b)) (m b (inr refl))
  unmet_none (Either a b) true m = ap (λ x. cond (x || h b) None (Some a)) (m a refl)
  unmet_none (Either a b) false m = ap (λ x. cond (h a || x) None (Some a)) (m b refl) ∙ second (h a)
    where
      second : (x : Bool) → cond (x || true) None (Some a) ≡ no_fact
      second true = refl
      second false = refl
  unmet_none (Arguments i j) first m = none_of_all ts h i j (node_at ts i).count (λ k l. m _ (k, l, refl))

  -- what a step that lacks nothing is
  pub record IsReady (s : Step) : Type 0 where
    pub are_terms_here : are_terms ts s ≡ true
    pub is_formed_here : is_formed ts s ≡ true
    pub first : Bool
    pub are_met : AreMet (needs ts s) first

  -- from a step that lacks nothing to its parts, and back
  pub ready : (s : Step) → lack_of ts h s ≡ no_lack → IsReady s
  unfolding lack_of
  ready s e = by (are_terms ts s) (is_formed ts s) refl refl e
    where
      none : (o : Option Fact) → lack_of_need o ≡ no_lack → o ≡ no_fact
      none None g = refl
      none (Some f) g = absurd (cc)

      by : (a b : Bool) → are_terms ts s ≡ a → is_formed ts s ≡ b → cond a (cond b (lack_of_need (unmet ts h (needs ts s))) (Some Form)) (Some Number) ≡ no_lack → IsReady s
      by true true u v g = let m = met (needs ts s) (none _ g) in record { are_terms_here = u; is_formed_here = v; first = m.0; are_met = m.1 }
      by true false u v g = absurd (cc)
      by false b u v g = absurd (cc)

  pub lacks_nothing : (s : Step) → IsReady s → lack_of ts h s ≡ no_lack
  unfolding lack_of
  lacks_nothing s r =
      ap (λ x. cond x (cond (is_formed ts s) (lack_of_need (unmet ts h (needs ts s))) (Some Form)) (Some Number)) r.are_terms_here
      ∙ ap (λ x. cond x (lack_of_need (unmet ts h (needs ts s))) (Some Form)) r.is_formed_here
      ∙ ap lack_of_need (unmet_none (needs ts s) r.first r.are_met)

-- where each fact follows, the fact of a step that lacks nothing does
pub sound : (ts : Terms) (given h : Fact → Bool) → EachFollows ts given h → (s : Step) → lack_of ts h s ≡ no_lack → Follows ts given s.fact
sound ts given h each s e =
    let r = ready ts h s e in
    step s r.first r.are_terms_here r.is_formed_here (λ f p. each f (r.are_met f p))

-- a closed set that has the given facts has what follows
pub has_all : (ts : Terms) (given h : Fact → Bool) → IsClosed ts h → AreIn given h → (f : Fact) → Follows ts given f → h f ≡ true
has_all ts given h closed has_given f (start e) = has_given f e
has_all ts given h closed has_given f (step s first u v premises) =
    closed s (lacks_nothing ts h s (record { are_terms_here = u; is_formed_here = v; first = first; are_met = λ g p. has_all ts given h closed has_given g (premises g p) }))

-- a step lacks nothing more where more facts are there
pub lacks_no_more : (ts : Terms) (g h : Fact → Bool) → AreIn g h → (s : Step) → lack_of ts g s ≡ no_lack → lack_of ts h s ≡ no_lack
lacks_no_more ts g h more s e =
    let r = ready ts g s e in
    lacks_nothing ts h s (record { are_terms_here = r.are_terms_here; is_formed_here = r.is_formed_here; first = r.first; are_met = λ f p. more f (r.are_met f p) })

-- what follows from facts that follow, follows
pub follows_from : (ts : Terms) (given h : Fact → Bool) → EachFollows ts given h → (f : Fact) → Follows ts h f → Follows ts given f
follows_from ts given h each f (start e) = each f e
follows_from ts given h each f (step s first u v premises) = step s first u v (λ g p. follows_from ts given h each g (premises g p))

-- what follows from some facts follows from more
pub follows_more : (ts : Terms) (g h : Fact → Bool) → AreIn g h → (f : Fact) → Follows ts g f → Follows ts h f
follows_more ts g h more f follows = follows_from ts h g (λ k e. start (more k e)) f follows
