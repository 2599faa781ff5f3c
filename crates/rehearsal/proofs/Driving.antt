-- An end driven over a list of calls stands where its run does. Assumes nothing.
use Rattle.std.proofs.Common.{◌≡◌, ℕ, ◌+◌, ◌<◌, List, [], ◌∷◌, ◌++◌, map, length, get_or, take, sym, refl, ap, ◌∙◌}
use Rattle.std.proofs.lemmas.List.{take_more, map-append}
use Rattle.sponge.specs.Steps.{Steps}
use Rattle.transcript.specs.Takes.{Draws}
use Rattle.transcript.specs.Roles.{Role}
use Rattle.transcript.specs.declared.shape.StarkShape.{StarkShape}
use Rattle.rehearsal.specs.Runs.{Call, opened, closed, finished, Stand, start, mid, ready, bracketed, stopped, halted, sponge_of, call, calls}
use Rattle.rehearsal.specs.Driven.{Goes, standing, seen, shows}
use Rattle.rehearsal.specs.declared.run.Run.{Run}

abbrev pub Went : {R S E : Type 0} → Steps S → Draws E → Role → List Call → Run R E → S → Run R E → S → Type 0
Went {S = S} {E = E} st dr role cs before s after t =
    (sh : StarkShape) (e : Stand S E) → before ≡ seen sh e → s ≡ sponge_of e → (after ≡ seen sh (calls st dr sh role cs e)) × (t ≡ sponge_of (calls st dr sh role cs e))

module _ {S E : Type 0} (st : Steps S) (dr : Draws E) (role : Role) where
  calls-++ : (sh : StarkShape) (cs ds : List Call) (e : Stand S E) → calls st dr sh role (cs ++ ds) e ≡ calls st dr sh role ds (calls st dr sh role cs e)
  calls-++ sh [] ds e = refl
  calls-++ sh (c ∷ cs) ds e = calls-++ sh cs ds (call st dr sh role c e)

  -- one request more
  pub went_on : {R A : Type 0} → (f : A → Call) (xs : List A) (i : ℕ) (x : A) (before : Run R E) (s : S) (now : Run R E) (t : S) (after : Run R E) (u : S) → i < length xs → x ≡ get_or xs i x → Went st dr role (map f (take i xs)) before s now t → Goes st dr role (f x) now t after u → Went st dr role (map f (take (i + 1) xs)) before s after u
  went_on f xs i x before s now t after u within read went goes sh e p q =
      let so_far = went sh e p q in
      let next = goes sh (calls st dr sh role (map f (take i xs)) e) so_far.0 so_far.1 in
      let pushed = take_more xs i x within ∙ ap (λ y. take i xs ++ (y ∷ [])) (sym read) in
      let whole : calls st dr sh role (map f (take (i + 1) xs)) e ≡ call st dr sh role (f x) (calls st dr sh role (map f (take i xs)) e) =
      ap (λ ys. calls st dr sh role (map f ys) e) pushed ∙ ap (λ cs. calls st dr sh role cs e) (map-append f (take i xs) (x ∷ [])) ∙ calls-++ sh (map f (take i xs)) (f x ∷ []) e in
      (next.0 ∙ ap (seen sh) (sym whole), next.1 ∙ ap sponge_of (sym whole))

pub seen_shown : (R : Type 0) {S E : Type 0} (sh : StarkShape) (e : Stand S E) → shows (seen {R = R} sh e) ≡ standing e
seen_shown R sh (start s) = refl
seen_shown R sh (mid x a s) = refl
seen_shown R sh (ready x a y z s) = refl
seen_shown R sh (bracketed x a y z s opened) = refl
seen_shown R sh (bracketed x a y z s closed) = refl
seen_shown R sh (bracketed x a y z s finished) = refl
seen_shown R sh (stopped f s) = refl
seen_shown R sh (halted x a f s) = refl
