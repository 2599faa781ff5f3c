-- Two runs of one shape, begun on one sponge, agree: what every run keeps, and what it gives. Assumes nothing.
use Rattle.std.proofs.Common.{◌≡◌, ℕ, min, Bool, true, false, cond, eqb, ltb, List, [], ◌∷◌, length, Some, None, Option, sym, refl, ap, ◌∙◌, subst, ap₂}
use Rattle.sponge.specs.Steps.{Steps, passing}
use Rattle.transcript.specs.declared.shape.StarkShape.{StarkShape}
use Rattle.transcript.specs.declared.failure.StarkTranscriptFailure.{StarkTranscriptFailure}
use Rattle.transcript.specs.declared.failure.StarkTranscriptFailure.TheVariants.{MissingPreprocessedCommitment, UnexpectedPreprocessedCommitment}
use Rattle.transcript.specs.Takes.{Draws, takes, commit, challenge, drawn}
use Rattle.transcript.specs.Seed.{seed}
use Rattle.transcript.specs.Phases.{misplaced, least, preprocessed_fault, random_fault, constraint_outcome, constraint_sponge, prover_outcome, prover_sponge, verifier_outcome, verifier_sponge, with_witness, accepted, tried, bound, committed, tested, witnessed}
use Rattle.transcript.specs.Schedule.{First, Second}
use Rattle.transcript.proofs.Least.{least_passes}
use Rattle.transcript.proofs.Scheduled.{alpha_scheduled, zeta_scheduled}
use Rattle.transcript.specs.Roles.{Role, prover, verifier}
use Rattle.rehearsal.specs.Runs.{Call, constraint, out_of_domain, opening, closing, finish, Bracket, closes, finishes, opens, goes_on, Stand, start, mid, ready, bracketed, stopped, halted, after_constraint, after_ood, constrains, leaves_domain, call, calls, run}
use Rattle.rehearsal.specs.Agreement.{PassedFirst, PassedSecond, Agree}

-- a witness that a prover finds is one that a verifier accepts
found_accepted : (p : ℕ → Bool) (limit w : ℕ) (b : Bool) → cond b (least p limit) (Some 0) ≡ Some w → cond b (p w) true ≡ true
found_accepted p limit w true e = least_passes p limit w e
found_accepted p limit w false e = refl

module _ {S E : Type 0} (st : Steps S) (dr : Draws E) (sh : StarkShape) (s₀ : S) where
  -- the sponge after the seed, before alpha, after alpha
  abbrev seeded : S
  seeded = takes st (seed sh) s₀

  abbrev before_alpha : First → S
  before_alpha x = bound st dr sh x seeded

  abbrev after_alpha : First → S
  after_alpha x = drawn st dr (before_alpha x)

  -- before zeta, after zeta
  abbrev before_zeta : First → Second → S
  before_zeta x y = tested st dr sh y.quotient y.random (after_alpha x) y.witness

  abbrev after_zeta : First → Second → S
  after_zeta x y = drawn st dr (before_zeta x y)

  record FirstOk (x : First) (a : E) : Type 0 where
    pub counted : eqb (length x.public) sh.num_public_values ≡ true
    pub placed : preprocessed_fault sh x.preprocessed ≡ None
    pub draws : a ≡ challenge st dr (before_alpha x)

  record SecondOk (x : First) (y : Second) (z : E) (s : S) : Type 0 where
    pub placed : random_fault sh y.random ≡ None
    pub passes : accepted st sh.ood_pow_bits (committed st sh y.quotient y.random (after_alpha x)) y.witness ≡ true
    pub draws : z ≡ challenge st dr (before_zeta x y)
    pub leaves : s ≡ after_zeta x y

  abbrev Kept : Stand S E → Type 0
  Kept (start s) = s ≡ seeded
  Kept (mid x a s) = FirstOk x a × (s ≡ after_alpha x)
  Kept (ready x a y z s) = FirstOk x a × SecondOk x y z s
  Kept (bracketed x a y z s b) = FirstOk x a × SecondOk x y z s
  Kept (stopped f s) = Unit {0}
  Kept (halted x a f s) = FirstOk x a

  abbrev placing : Bool → Option ℕ → Option StarkTranscriptFailure
  placing w o = misplaced w o (MissingPreprocessedCommitment sh.preprocessed_width) UnexpectedPreprocessedCommitment

  passed_on : (x : First) (s : S) → eqb (length x.public) sh.num_public_values ≡ true → preprocessed_fault sh x.preprocessed ≡ None → s ≡ seeded → FirstOk x (challenge st dr (bound st dr sh x s)) × (drawn st dr (bound st dr sh x s) ≡ after_alpha x)
  passed_on x s eb ef e =
      (record { counted = eb; placed = ef; draws = ap (λ t. challenge st dr (bound st dr sh x t)) e }, ap (λ t. drawn st dr (bound st dr sh x t)) e)

  -- the constraint phase keeps it: a misplaced commitment is not the wrong public count
  constraint_keeps : (x : First) (s : S) (b w : Bool) (o : Option ℕ) → eqb (length x.public) sh.num_public_values ≡ b → ltb 0 sh.preprocessed_width ≡ w → x.preprocessed ≡ o → s ≡ seeded → Kept (after_constraint x (constraint_outcome b (placing w o) (challenge st dr (bound st dr sh x s))) (constraint_sponge b (placing w o) s (commit st x.trace s) (drawn st dr (bound st dr sh x s))))
  constraint_keeps x s false w o eb ew eo e = e
  constraint_keeps x s true true None eb ew eo e = tt
  constraint_keeps x s true false (Some c) eb ew eo e = tt
  constraint_keeps x s true true (Some c) eb ew eo e = passed_on x s eb (ap₂ placing ew eo) e
  constraint_keeps x s true false None eb ew eo e = passed_on x s eb (ap₂ placing ew eo) e

  constrains_kept : (x : First) (e : Stand S E) → Kept e → Kept (constrains st dr sh x e)
  constrains_kept x (start s) k = constraint_keeps x s (eqb (length x.public) sh.num_public_values) (ltb 0 sh.preprocessed_width) x.preprocessed refl refl refl k
  constrains_kept x (mid x' a s) k = k
  constrains_kept x (ready x' a y z s) k = k
  constrains_kept x (bracketed x' a y z s b) k = k
  constrains_kept x (stopped f t) k = k
  constrains_kept x (halted x' a f t) k = k

  -- the out-of-domain phase keeps it
  point : (q : ℕ) (r : Option ℕ) (w : ℕ) (x : First) (s : S) → random_fault sh r ≡ None → accepted st sh.ood_pow_bits (committed st sh q r s) w ≡ true → s ≡ after_alpha x → SecondOk x (record { quotient = q; random = r; witness = w }) (challenge st dr (tested st dr sh q r s w)) (drawn st dr (tested st dr sh q r s w))
  point q r w x s ef passed e = record {
    placed = ef;
    passes = subst (λ t. accepted st sh.ood_pow_bits (committed st sh q r t) w ≡ true) e passed;
    draws = ap (λ t. challenge st dr (tested st dr sh q r t w)) e;
    leaves = ap (λ t. drawn st dr (tested st dr sh q r t w)) e;
  }

  proving_keeps : (x : First) (a : E) (q : ℕ) (r : Option ℕ) (budget : ℕ) (s : S) (f : Option StarkTranscriptFailure) (o : Option ℕ) → random_fault sh r ≡ f → witnessed st dr sh q r budget s ≡ o → FirstOk x a → s ≡ after_alpha x → Kept (after_ood x a q r (prover_outcome f o (λ w. challenge st dr (tested st dr sh q r s w)) (tried sh.ood_pow_bits)) (prover_sponge f o (commit st q s) (committed st sh q r s) (λ w. drawn st dr (tested st dr sh q r s w))))
  proving_keeps x a q r budget s (Some f) o ef eo k e = k
  proving_keeps x a q r budget s None None ef eo k e = k
  proving_keeps x a q r budget s None (Some w) ef eo k e =
      let bits = sh.ood_pow_bits in
      (k, point q r w x s ef (found_accepted (λ v. passing st (committed st sh q r s) v bits) (min budget dr.order) w (ltb 0 bits) eo) e)

  checking_keeps : (x : First) (a : E) (q : ℕ) (r : Option ℕ) (w : ℕ) (s : S) (f : Option StarkTranscriptFailure) (b : Bool) → random_fault sh r ≡ f → accepted st sh.ood_pow_bits (committed st sh q r s) w ≡ b → FirstOk x a → s ≡ after_alpha x → Kept (after_ood x a q r (with_witness w (verifier_outcome f b sh.ood_pow_bits (challenge st dr (tested st dr sh q r s w)))) (verifier_sponge f b (commit st q s) (tested st dr sh q r s w) (drawn st dr (tested st dr sh q r s w))))
  checking_keeps x a q r w s (Some f) b ef eb k e = k
  checking_keeps x a q r w s None false ef eb k e = k
  checking_keeps x a q r w s None true ef eb k e = (k, point q r w x s ef eb e)

  leaves_domain_kept : (role : Role) (q : ℕ) (r : Option ℕ) (n : ℕ) (e : Stand S E) → Kept e → Kept (leaves_domain st dr sh role q r n e)
  leaves_domain_kept role q r n (start s) k = k
  leaves_domain_kept prover q r n (mid x a s) k = proving_keeps x a q r n s (random_fault sh r) (witnessed st dr sh q r n s) refl refl k.0 k.1
  leaves_domain_kept verifier q r n (mid x a s) k = checking_keeps x a q r n s (random_fault sh r) (accepted st sh.ood_pow_bits (committed st sh q r s) n) refl refl k.0 k.1
  leaves_domain_kept role q r n (ready x a y z s) k = k
  leaves_domain_kept role q r n (bracketed x a y z s b) k = k
  leaves_domain_kept role q r n (stopped f t) k = k
  leaves_domain_kept role q r n (halted x a f t) k = k

  opens_kept : (e : Stand S E) → Kept e → Kept (opens e)
  opens_kept (start s) k = k
  opens_kept (mid x a s) k = k
  opens_kept (ready x a y z s) k = k
  opens_kept (bracketed x a y z s b) k = k
  opens_kept (stopped f t) k = k
  opens_kept (halted x a f t) k = k

  goes_on_kept : (g : Bracket → Bracket) (e : Stand S E) → Kept e → Kept (goes_on g e)
  goes_on_kept g (start s) k = k
  goes_on_kept g (mid x a s) k = k
  goes_on_kept g (ready x a y z s) k = k
  goes_on_kept g (bracketed x a y z s b) k = k
  goes_on_kept g (stopped f t) k = k
  goes_on_kept g (halted x a f t) k = k

  call_kept : (role : Role) (c : Call) (e : Stand S E) → Kept e → Kept (call st dr sh role c e)
  call_kept role (constraint x) e k = constrains_kept x e k
  call_kept role (out_of_domain q r n) e k = leaves_domain_kept role q r n e k
  call_kept role opening e k = opens_kept e k
  call_kept role closing e k = goes_on_kept closes e k
  call_kept role finish e k = goes_on_kept finishes e k

  calls_kept : (role : Role) (cs : List Call) (e : Stand S E) → Kept e → Kept (calls st dr sh role cs e)
  calls_kept role [] e k = k
  calls_kept role (c ∷ cs) e k = calls_kept role cs (call st dr sh role c e) (call_kept role c e k)

  -- what a passed phase says
  moved_first : (x' x : First) (a' a : E) → FirstOk x' a' → (x' ≡ x) × (a' ≡ a) → FirstOk x a
  moved_first x' x a' a k h = subst (λ b. FirstOk x b) h.1 (subst (λ t. FirstOk t a') h.0 k)

  passed_first : (e : Stand S E) (x : First) (a : E) → Kept e → PassedFirst e x a → FirstOk x a
  passed_first (start s) x a k h = absurd h
  passed_first (mid x' a' s) x a k h = moved_first x' x a' a k.0 h
  passed_first (ready x' a' y z s) x a k h = moved_first x' x a' a k.0 h
  passed_first (bracketed x' a' y z s b) x a k h = moved_first x' x a' a k.0 h
  passed_first (stopped f t) x a k h = absurd h
  passed_first (halted x' a' f t) x a k h = moved_first x' x a' a k h

  moved_second : (x' x : First) (y' y : Second) (z' z : E) (s' s : S) → SecondOk x' y' z' s' → x' ≡ x → (y' ≡ y) × (z' ≡ z) × (s' ≡ s) → SecondOk x y z s
  moved_second x' x y' y z' z s' s k e h =
      subst (λ t. SecondOk x y z t) h.2 (subst (λ c. SecondOk x y c s') h.1 (subst (λ v. SecondOk x v z' s') h.0 (subst (λ t. SecondOk t y' z' s') e k)))

  passed_second : (e : Stand S E) (x : First) (a : E) (y : Second) (z : E) (s : S) → Kept e → PassedFirst e x a → PassedSecond e y z s → SecondOk x y z s
  passed_second (start t) x a y z s k g h = absurd h
  passed_second (mid x' a' t) x a y z s k g h = absurd h
  passed_second (ready x' a' y' z' t) x a y z s k g h = moved_second x' x y' y z' z t s k.1 g.0 h
  passed_second (bracketed x' a' y' z' t b) x a y z s k g h = moved_second x' x y' y z' z t s k.1 g.0 h
  passed_second (stopped f t) x a y z s k g h = absurd h
  passed_second (halted x' a' f t) x a y z s k g h = absurd h

  -- a verifier that stands where the prover stood passes
  first_passes : (x : First) (a : E) → FirstOk x a → constrains st dr sh x (start seeded) ≡ mid x a (after_alpha x)
  first_passes x a k =
      ap₂ (λ b f. after_constraint x (constraint_outcome b f (challenge st dr (before_alpha x))) (constraint_sponge b f seeded (commit st x.trace seeded) (after_alpha x))) k.counted k.placed ∙ ap (λ c. mid x c (after_alpha x)) (sym k.draws)

  second_passes : (x : First) (a : E) (y : Second) (z : E) (s : S) → SecondOk x y z s → leaves_domain st dr sh verifier y.quotient y.random y.witness (mid x a (after_alpha x)) ≡ ready x a y z s
  second_passes x a y z s k =
      ap₂ (λ f b. after_ood x a y.quotient y.random (with_witness y.witness (verifier_outcome f b sh.ood_pow_bits (challenge st dr (before_zeta x y)))) (verifier_sponge f b (commit st y.quotient (after_alpha x)) (before_zeta x y) (after_zeta x y))) k.placed k.passes ∙ ap₂ (λ c u. ready x a y c u) (sym k.draws) (sym k.leaves)

  kept_agree : (p v : Stand S E) → Kept p → Kept v → Agree st dr sh s₀ p v
  kept_agree p v kp kv = record {
    alpha = λ x a g y.
        let k = passed_first p x a kp g in
        k.draws ∙ alpha_scheduled st dr sh s₀ x y k.placed;
    zeta = λ x a y z o g h.
        let l = passed_second p x a y z o kp g h in
        l.draws ∙ zeta_scheduled st dr sh s₀ x y (passed_first p x a kp g).placed l.placed;
    at_alpha = λ x a t g e.
        let k = passed_first p x a kp g in
        let here : t ≡ seeded = subst Kept e kv in
        (after_alpha x, (ap (constrains st dr sh x) (e ∙ ap start here) ∙ first_passes x a k));
    at_zeta = λ x a b y z o t g h e.
        let here : FirstOk x b × (t ≡ after_alpha x) = subst Kept e kv in
        let same : b ≡ a = here.0.draws ∙ sym (passed_first p x a kp g).draws in
        ap (leaves_domain st dr sh verifier y.quotient y.random y.witness) (e ∙ ap₂ (λ c u. mid x c u) same here.1) ∙ second_passes x a y z o (passed_second p x a y z o kp g h);
    at_bracket = λ x a b y z w o u g h i j.
        let k = passed_second p x a y z o kp g h in
        let l = passed_second v x b y w u kv i j in
        (((passed_first p x a kp g).draws ∙ sym (passed_first v x b kv i).draws), (k.draws ∙ sym l.draws), (k.leaves ∙ sym l.leaves));
  }

pub ends_agree : {S E : Type 0} (st : Steps S) (dr : Draws E) (sh : StarkShape) (s : S) (ps vs : List Call) → Agree st dr sh s (run st dr sh prover s ps) (run st dr sh verifier s vs)
ends_agree st dr sh s ps vs =
    kept_agree st dr sh s (run st dr sh prover s ps) (run st dr sh verifier s vs) (calls_kept st dr sh s prover ps (start (takes st (seed sh) s)) refl) (calls_kept st dr sh s verifier vs (start (takes st (seed sh) s)) refl)
