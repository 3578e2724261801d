-- What a course serves, answer by answer, of a language whose plans keep to their duties.
use Rattle.std.proofs.Common.{◌≡◌, ◌∙◌, ℕ, zero, suc, List, [], ◌∷◌, ◌++◌, drop, Option, Some, None, ap, refl, sym, subst, append_assoc}
use Rattle.tt_evaluation.specs.Evaluation.{Meaning, eval, eval_within}
use Rattle.tt_evaluation.specs.Plans.{Plan, Course, Stop, Fin, Spent, Evaluation, course_with_post, follow, next_answer, posts_of, spend, then_do}
use Rattle.laws_serving.specs.Duties.{Duties, Keeps, KeepsDuties, served_after, served_by}
use Rattle.laws_serving.specs.Duties as duty

module _ {Job Want Got : Type 0} (duties : Duties Job Want Got) where
  -- what is served further out stays
  further : (inner outer : List ℕ) (want : Want) (got : Got) → ((n : ℕ) → duties.handed want ≡ Some n → (rest : List ℕ) × (inner ≡ n ∷ rest))
      → served_after duties (inner ++ outer) want got ≡ served_after duties inner want got ++ outer
  further inner outer want got hands = go (duties.handed want) refl
    where
      go : (handed : Option ℕ) → duties.handed want ≡ handed
          → served_by handed (duties.taken want got) (inner ++ outer) ≡ served_by handed (duties.taken want got) inner ++ outer
      go None is = sym (append_assoc (posts_of (duties.taken want got)) inner outer)
      go (Some n) is =
          let found = hands n is in
          ap (λ all. drop 1 (all ++ outer)) found.1 ∙ sym (ap (λ all. drop 1 all ++ outer) found.1)

module _ {Job Want Got Outcome State : Type 0} (duties : Duties Job Want Got) where
  -- what holds of what comes of answers, if a post is owed, and if one was just begun
  pub record Served (owes begun : Option ℕ) (coming : List Got → Course Want Got Outcome State) : Type 0 where
    pub grows : (gots more : List Got) (outcome : Outcome) (state : State) (k : ℕ) (rest : List Got)
        → coming gots ≡ Fin outcome state k rest → coming (gots ++ more) ≡ Fin outcome state k (rest ++ more)
    pub first : (want : Want) (serving : List ℕ) → coming [] ≡ Stop want serving → serving ≡ posts_of begun
    pub none : (outcome : Outcome) (state : State) (k : ℕ) (rest : List Got) → coming [] ≡ Fin outcome state k rest
        → (owes ≡ None) × (begun ≡ None) × (rest ≡ [])
    pub stop : (gots : List Got) (got : Got) (want next : Want) (serving now : List ℕ)
        → coming gots ≡ Stop want serving → coming (gots ++ got ∷ []) ≡ Stop next now
        → now ++ posts_of owes ≡ served_after duties (serving ++ posts_of owes) want got
    pub end : (gots : List Got) (got : Got) (want : Want) (serving : List ℕ) (outcome : Outcome) (state : State) (k : ℕ) (rest : List Got)
        → coming gots ≡ Stop want serving → coming (gots ++ got ∷ []) ≡ Fin outcome state k rest
        → (rest ≡ []) × (served_after duties (serving ++ posts_of owes) want got ≡ [])
    pub hands : (gots : List Got) (want : Want) (serving : List ℕ) (n : ℕ) → coming gots ≡ Stop want serving → duties.handed want ≡ Some n
        → (rest : List ℕ) × (serving ++ posts_of owes ≡ n ∷ rest)

  spent : (owes begun : Option ℕ) → Served owes begun (λ gots. Spent)
  spent owes begun = record {
    grows = λ gots more outcome state k rest is. absurd (cc is);
    first = λ want serving is. absurd (cc is);
    none = λ outcome state k rest is. absurd (cc is);
    stop = λ gots got want next serving now is. absurd (cc is);
    end = λ gots got want serving outcome state k rest is. absurd (cc is);
    hands = λ gots want serving n is. absurd (cc is);
  }

  ended : (outcome : Outcome) (state : State) (n : ℕ) → Served None None (λ gots. Fin outcome state n gots)
  ended outcome state n = record {
    grows = λ gots more o st k rest is.
        let first : outcome ≡ o = cc is in let second : state ≡ st = cc is in let third : n ≡ k = cc is in let fourth : gots ≡ rest = cc is in
        rw (first, second, third, fourth) refl;
    first = λ want serving is. absurd (cc is);
    none = λ o st k rest is. (refl, refl, cc is);
    stop = λ gots got want next serving now is. absurd (cc is);
    end = λ gots got want serving o st k rest is. absurd (cc is);
    hands = λ gots want serving m is. absurd (cc is);
  }

  -- ---- what is asked ----

  asked : (owes : Option ℕ) (want : Want) (on : Got → List Got → Course Want Got Outcome State) → duties.handed want ≡ None
      → ((got : Got) → Served owes (duties.taken want got) (on got)) → Served owes None (λ gots. next_answer want gots on)
  asked owes want on quiet after = record {
    grows = grows;
    first = λ other serving is. cc is;
    none = λ outcome state k rest is. absurd (cc is);
    stop = stop;
    end = end;
    hands = hands;
  }
    where
      grows : (gots more : List Got) (outcome : Outcome) (state : State) (k : ℕ) (rest : List Got) → next_answer want gots on ≡ Fin outcome state k rest
          → next_answer want (gots ++ more) on ≡ Fin outcome state k (rest ++ more)
      grows [] more outcome state k rest is = absurd (cc is)
      grows (got ∷ gots) more outcome state k rest is = (after got).grows gots more outcome state k rest is

      at_once : (got : Got) (rest : List ℕ) → served_after duties rest want got ≡ posts_of (duties.taken want got) ++ rest
      at_once got rest = ap (λ handed. served_by handed (duties.taken want got) rest) quiet

      stop : (gots : List Got) (got : Got) (this next : Want) (serving now : List ℕ) → next_answer want gots on ≡ Stop this serving
          → next_answer want (gots ++ got ∷ []) on ≡ Stop next now → now ++ posts_of owes ≡ served_after duties (serving ++ posts_of owes) this got
      stop [] got this next serving now is then =
          let same : want ≡ this = cc is in
          let nothing : [] ≡ serving = cc is in
          let found : now ≡ posts_of (duties.taken want got) = (after got).first next now then in
          ap (λ all. all ++ posts_of owes) found ∙ sym (at_once got (posts_of owes))
          ∙ ap (λ one. served_after duties (posts_of owes) one got) same ∙ ap (λ all. served_after duties (all ++ posts_of owes) this got) nothing
      stop (first ∷ gots) got this next serving now is then = (after first).stop gots got this next serving now is then

      end : (gots : List Got) (got : Got) (this : Want) (serving : List ℕ) (outcome : Outcome) (state : State) (k : ℕ) (rest : List Got)
          → next_answer want gots on ≡ Stop this serving → next_answer want (gots ++ got ∷ []) on ≡ Fin outcome state k rest
          → (rest ≡ []) × (served_after duties (serving ++ posts_of owes) this got ≡ [])
      end [] got this serving outcome state k rest is then =
          let same : want ≡ this = cc is in
          let nothing : [] ≡ serving = cc is in
          let none = (after got).none outcome state k rest then in (
            none.2,
            ap (λ all. served_after duties (all ++ posts_of owes) this got) (sym nothing) ∙ ap (λ one. served_after duties (posts_of owes) one got) (sym same)
                ∙ at_once got (posts_of owes) ∙ ap (λ one. posts_of one ++ posts_of owes) none.1 ∙ ap posts_of none.0,
          )
      end (first ∷ gots) got this serving outcome state k rest is then = (after first).end gots got this serving outcome state k rest is then

      hands : (gots : List Got) (this : Want) (serving : List ℕ) (n : ℕ) → next_answer want gots on ≡ Stop this serving → duties.handed this ≡ Some n
          → (rest : List ℕ) × (serving ++ posts_of owes ≡ n ∷ rest)
      hands [] this serving n is some =
          let same : want ≡ this = cc is in
          let both : None ≡ Some n = sym quiet ∙ ap duties.handed same ∙ some in
          absurd (cc both)
      hands (first ∷ gots) this serving n is some = (after first).hands gots this serving n is some

  -- what is handed over
  handed : (n : ℕ) (want : Want) (on : Got → List Got → Course Want Got Outcome State) → duties.handed want ≡ Some n
      → ((got : Got) → (outcome : Outcome) × (state : State) × (k : ℕ) × ((gots : List Got) → on got gots ≡ Fin outcome state k gots))
      → Served (Some n) None (λ gots. next_answer want gots on)
  handed n want on some after = record {
    grows = grows;
    first = λ other serving is. cc is;
    none = λ outcome state k rest is. absurd (cc is);
    stop = stop;
    end = end;
    hands = hands;
  }
    where
      grows : (gots more : List Got) (outcome : Outcome) (state : State) (k : ℕ) (rest : List Got) → next_answer want gots on ≡ Fin outcome state k rest
          → next_answer want (gots ++ more) on ≡ Fin outcome state k (rest ++ more)
      grows [] more outcome state k rest is = absurd (cc is)
      grows (got ∷ gots) more outcome state k rest is =
          let found = after got in
          let at : Fin found.0 found.1 found.2 gots ≡ Fin outcome state k rest = sym (found.3 gots) ∙ is in
          found.3 (gots ++ more) ∙ (ended found.0 found.1 found.2).grows gots more outcome state k rest at

      stop : (gots : List Got) (got : Got) (this next : Want) (serving now : List ℕ) → next_answer want gots on ≡ Stop this serving
          → next_answer want (gots ++ got ∷ []) on ≡ Stop next now → now ++ posts_of (Some n) ≡ served_after duties (serving ++ posts_of (Some n)) this got
      stop [] got this next serving now is then =
          let both : Fin _ _ _ [] ≡ Stop next now = sym ((after got).3 []) ∙ then in absurd (cc both)
      stop (first ∷ gots) got this next serving now is then =
          let both : Fin _ _ _ gots ≡ Stop this serving = sym ((after first).3 gots) ∙ is in absurd (cc both)

      end : (gots : List Got) (got : Got) (this : Want) (serving : List ℕ) (outcome : Outcome) (state : State) (k : ℕ) (rest : List Got)
          → next_answer want gots on ≡ Stop this serving → next_answer want (gots ++ got ∷ []) on ≡ Fin outcome state k rest
          → (rest ≡ []) × (served_after duties (serving ++ posts_of (Some n)) this got ≡ [])
      end [] got this serving outcome state k rest is then =
          let same : want ≡ this = cc is in
          let nothing : [] ≡ serving = cc is in
          let at : Fin _ _ _ [] ≡ Fin outcome state k rest = sym ((after got).3 []) ∙ then in
          let left : [] ≡ rest = cc at in (
            sym left,
            ap (λ all. served_after duties (all ++ n ∷ []) this got) (sym nothing) ∙ ap (λ one. served_after duties (n ∷ []) one got) (sym same)
                ∙ ap (λ one. served_by one (duties.taken want got) (n ∷ [])) some,
          )
      end (first ∷ gots) got this serving outcome state k rest is then =
          let both : Fin _ _ _ gots ≡ Stop this serving = sym ((after first).3 gots) ∙ is in absurd (cc both)

      hands : (gots : List Got) (this : Want) (serving : List ℕ) (m : ℕ) → next_answer want gots on ≡ Stop this serving → duties.handed this ≡ Some m
          → (rest : List ℕ) × (serving ++ posts_of (Some n) ≡ m ∷ rest)
      hands [] this serving m is other =
          let same : want ≡ this = cc is in
          let nothing : [] ≡ serving = cc is in
          let both : Some n ≡ Some m = sym some ∙ ap duties.handed same ∙ other in
          let number : n ≡ m = cc both in
          ([], ap (λ all. all ++ n ∷ []) (sym nothing) ∙ ap (λ k. k ∷ []) number)
      hands (first ∷ gots) this serving m is other =
          let both : Fin _ _ _ gots ≡ Stop this serving = sym ((after first).3 gots) ∙ is in absurd (cc both)

  -- ---- a call, and what comes after it ----

  module _ (owes serves : Option ℕ) (inner : List Got → Course Want Got Outcome State) (rest : Outcome → State → ℕ → List Got → Course Want Got Outcome State)
      (called : Served serves None inner) (after : (outcome : Outcome) (state : State) (k : ℕ) → Served owes None (rest outcome state k)) where
    abbrev whole : List Got → Course Want Got Outcome State
    whole gots = then_do (course_with_post serves (inner gots)) rest

    -- by what the call came to
    came : (gots : List Got) (course : Course Want Got Outcome State) → inner gots ≡ course → whole gots ≡ then_do (course_with_post serves course) rest
    came gots course is = ap (λ one. then_do (course_with_post serves one) rest) is

    grows : (gots more : List Got) (outcome : Outcome) (state : State) (k : ℕ) (left : List Got) → whole gots ≡ Fin outcome state k left
        → whole (gots ++ more) ≡ Fin outcome state k (left ++ more)
    grows gots more outcome state k left is = go (inner gots) refl
      where
        go : (course : Course Want Got Outcome State) → inner gots ≡ course → whole (gots ++ more) ≡ Fin outcome state k (left ++ more)
        go (Stop want serving) at = let both = sym (came gots _ at) ∙ is in absurd (cc both)
        go Spent at = let both = sym (came gots _ at) ∙ is in absurd (cc both)
        go (Fin o st m gone) at =
            came (gots ++ more) _ (called.grows gots more o st m gone at) ∙ (after o st m).grows gone more outcome state k left (sym (came gots _ at) ∙ is)

    first : (want : Want) (serving : List ℕ) → whole [] ≡ Stop want serving → serving ≡ posts_of serves
    first want serving is = go (inner []) refl
      where
        go : (course : Course Want Got Outcome State) → inner [] ≡ course → serving ≡ posts_of serves
        go (Stop other inside) at =
            let both : Stop other (inside ++ posts_of serves) ≡ Stop want serving = sym (came [] _ at) ∙ is in
            let found : inside ++ posts_of serves ≡ serving = cc both in
            sym found ∙ ap (λ all. all ++ posts_of serves) (called.first other inside at)
        go Spent at = let both = sym (came [] _ at) ∙ is in absurd (cc both)
        go (Fin o st m gone) at =
            let none = called.none o st m gone at in
            let then : rest o st m [] ≡ Stop want serving = ap (rest o st m) (sym none.2) ∙ sym (came [] _ at) ∙ is in
            (after o st m).first want serving then ∙ ap posts_of (sym none.0)

    none : (outcome : Outcome) (state : State) (k : ℕ) (left : List Got) → whole [] ≡ Fin outcome state k left → (owes ≡ None) × (serves ≡ None) × (left ≡ [])
    none outcome state k left is = go (inner []) refl
      where
        go : (course : Course Want Got Outcome State) → inner [] ≡ course → (owes ≡ None) × (serves ≡ None) × (left ≡ [])
        go (Stop other inside) at = let both = sym (came [] _ at) ∙ is in absurd (cc both)
        go Spent at = let both = sym (came [] _ at) ∙ is in absurd (cc both)
        go (Fin o st m gone) at =
            let nothing = called.none o st m gone at in
            let then = (after o st m).none outcome state k left (ap (rest o st m) (sym nothing.2) ∙ sym (came [] _ at) ∙ is) in
            (then.0, nothing.0, then.2)

    -- a stop in the call
    inside_hands : (gots : List Got) (want : Want) (inside : List ℕ) → inner gots ≡ Stop want inside → (n : ℕ) → duties.handed want ≡ Some n
        → (left : List ℕ) × (inside ++ posts_of serves ≡ n ∷ left)
    inside_hands gots want inside at n some = called.hands gots want inside n at some

    stop : (gots : List Got) (got : Got) (want next : Want) (serving now : List ℕ) → whole gots ≡ Stop want serving → whole (gots ++ got ∷ []) ≡ Stop next now
        → now ++ posts_of owes ≡ served_after duties (serving ++ posts_of owes) want got
    stop gots got want next serving now is then = go (inner gots) refl
      where
        go : (course : Course Want Got Outcome State) → inner gots ≡ course → now ++ posts_of owes ≡ served_after duties (serving ++ posts_of owes) want got
        go Spent at = let both = sym (came gots _ at) ∙ is in absurd (cc both)
        go (Fin o st m gone) at =
            (after o st m).stop gone got want next serving now (sym (came gots _ at) ∙ is)
            (sym (came (gots ++ got ∷ []) _ (called.grows gots (got ∷ []) o st m gone at)) ∙ then)
        go (Stop other inside) at = more (inner (gots ++ got ∷ [])) refl
          where
            both : ◌≡◌ {A = Course Want Got Outcome State} (Stop other (inside ++ posts_of serves)) (Stop want serving)
            both = sym (came gots _ at) ∙ is

            same : other ≡ want
            same = cc both

            found : inside ++ posts_of serves ≡ serving
            found = cc both

            apart : served_after duties (serving ++ posts_of owes) want got ≡ served_after duties (inside ++ posts_of serves) other got ++ posts_of owes
            apart =
                ap (λ all. served_after duties (all ++ posts_of owes) want got) (sym found)
                ∙ ap (λ one. served_after duties ((inside ++ posts_of serves) ++ posts_of owes) one got) (sym same)
                ∙ further duties (inside ++ posts_of serves) (posts_of owes) other got (inside_hands gots other inside at)

            more : (course : Course Want Got Outcome State) → inner (gots ++ got ∷ []) ≡ course
                → now ++ posts_of owes ≡ served_after duties (serving ++ posts_of owes) want got
            more Spent here = let not_so = sym (came (gots ++ got ∷ []) _ here) ∙ then in absurd (cc not_so)
            more (Stop later further_in) here =
                let last : Stop later (further_in ++ posts_of serves) ≡ Stop next now = sym (came (gots ++ got ∷ []) _ here) ∙ then in
                let is_now : further_in ++ posts_of serves ≡ now = cc last in
                ap (λ all. all ++ posts_of owes) (sym is_now ∙ called.stop gots got other later inside further_in at here) ∙ sym apart
            more (Fin o st m gone) here =
                let closed = called.end gots got other inside o st m gone at here in
                let go_on : rest o st m [] ≡ Stop next now = ap (rest o st m) (sym closed.0) ∙ sym (came (gots ++ got ∷ []) _ here) ∙ then in
                ap (λ all. all ++ posts_of owes) ((after o st m).first next now go_on ∙ sym closed.1) ∙ sym apart

    end : (gots : List Got) (got : Got) (want : Want) (serving : List ℕ) (outcome : Outcome) (state : State) (k : ℕ) (left : List Got)
        → whole gots ≡ Stop want serving → whole (gots ++ got ∷ []) ≡ Fin outcome state k left
        → (left ≡ []) × (served_after duties (serving ++ posts_of owes) want got ≡ [])
    end gots got want serving outcome state k left is then = go (inner gots) refl
      where
        go : (course : Course Want Got Outcome State) → inner gots ≡ course → (left ≡ []) × (served_after duties (serving ++ posts_of owes) want got ≡ [])
        go Spent at = let both = sym (came gots _ at) ∙ is in absurd (cc both)
        go (Fin o st m gone) at =
            (after o st m).end gone got want serving outcome state k left (sym (came gots _ at) ∙ is)
            (sym (came (gots ++ got ∷ []) _ (called.grows gots (got ∷ []) o st m gone at)) ∙ then)
        go (Stop other inside) at = more (inner (gots ++ got ∷ [])) refl
          where
            both : ◌≡◌ {A = Course Want Got Outcome State} (Stop other (inside ++ posts_of serves)) (Stop want serving)
            both = sym (came gots _ at) ∙ is

            same : other ≡ want
            same = cc both

            found : inside ++ posts_of serves ≡ serving
            found = cc both

            more : (course : Course Want Got Outcome State) → inner (gots ++ got ∷ []) ≡ course
                → (left ≡ []) × (served_after duties (serving ++ posts_of owes) want got ≡ [])
            more Spent here = let not_so = sym (came (gots ++ got ∷ []) _ here) ∙ then in absurd (cc not_so)
            more (Stop later further_in) here = let not_so = sym (came (gots ++ got ∷ []) _ here) ∙ then in absurd (cc not_so)
            more (Fin o st m gone) here =
                let closed = called.end gots got other inside o st m gone at here in
                let none = (after o st m).none outcome state k left (ap (rest o st m) (sym closed.0) ∙ sym (came (gots ++ got ∷ []) _ here) ∙ then) in (
                  none.2,
                  ap (λ all. served_after duties (all ++ posts_of owes) want got) (sym found)
                      ∙ ap (λ one. served_after duties ((inside ++ posts_of serves) ++ posts_of owes) one got) (sym same)
                      ∙ further duties (inside ++ posts_of serves) (posts_of owes) other got (inside_hands gots other inside at)
                      ∙ ap (λ all. all ++ posts_of owes) closed.1 ∙ ap posts_of none.0,
                )

    hands : (gots : List Got) (want : Want) (serving : List ℕ) (n : ℕ) → whole gots ≡ Stop want serving → duties.handed want ≡ Some n
        → (left : List ℕ) × (serving ++ posts_of owes ≡ n ∷ left)
    hands gots want serving n is some = go (inner gots) refl
      where
        go : (course : Course Want Got Outcome State) → inner gots ≡ course → (left : List ℕ) × (serving ++ posts_of owes ≡ n ∷ left)
        go Spent at = let both = sym (came gots _ at) ∙ is in absurd (cc both)
        go (Fin o st m gone) at = (after o st m).hands gone want serving n (sym (came gots _ at) ∙ is) some
        go (Stop other inside) at =
            let both : Stop other (inside ++ posts_of serves) ≡ Stop want serving = sym (came gots _ at) ∙ is in
            let same : other ≡ want = cc both in
            let found : inside ++ posts_of serves ≡ serving = cc both in
            let at_front = inside_hands gots other inside at n (ap duties.handed same ∙ some) in
            (at_front.0 ++ posts_of owes, ap (λ all. all ++ posts_of owes) (sym found ∙ at_front.1))

    call : Served owes serves (λ gots. then_do (course_with_post serves (inner gots)) rest)
    call = record { grows = grows; first = first; none = none; stop = stop; end = end; hands = hands }

  -- ---- plans ----

  plan_served : (evaluate : Evaluation Job Want Got Outcome State)
      → ((job : Job) (state : State) (n : ℕ) → Served (duties.owes job) None (λ gots. evaluate job state n gots))
      → (owes begun : Option ℕ) (plan : Plan Job Want Got Outcome State) → Keeps duties owes begun plan → (n : ℕ)
      → Served owes begun (λ gots. follow evaluate plan n gots)
  plan_served evaluate jobs owes _ _ (duty.ends {outcome = outcome} {state = state} none) n =
      subst (λ one. Served one None (λ gots. Fin outcome state n gots)) (sym none) (ended outcome state n)
  plan_served evaluate jobs owes _ _ (duty.asks {want = want} {state = state} {on = on} quiet after) n =
      asked owes want (λ got gots. follow evaluate (on got state) n gots) quiet (λ got. plan_served evaluate jobs owes _ (on got state) (after got state) n)
  plan_served evaluate jobs owes _ _ (duty.hands {want = want} {state = state} {on = on} m is some after) n =
      subst (λ one. Served one None (λ gots. next_answer want gots (λ got rest. follow evaluate (on got state) n rest))) (sym is)
      (handed m want (λ got gots. follow evaluate (on got state) n gots) some
      (λ got. let found = after got state in (found.0, found.1, n, λ gots. ap (λ one. follow evaluate one n gots) found.2)))
  plan_served evaluate jobs owes _ _ (duty.calls {serves = serves} {job = job} {state = state} {on = on} is after) n =
      go n (λ outcome st left. plan_served evaluate jobs owes _ (on outcome st) (after outcome st) left)
    where
      go : (k : ℕ) → ((outcome : Outcome) (st : State) (left : ℕ) → Served owes None (λ gots. follow evaluate (on outcome st) left gots)) → Served owes serves
          (λ gots. spend k (λ m. then_do (course_with_post serves (evaluate job state m gots)) (λ o st left rest. follow evaluate (on o st) left rest)))
      go zero then = spent owes serves
      go (suc m) then =
          call owes serves (λ gots. evaluate job state m gots) (λ o st left rest. follow evaluate (on o st) left rest)
          (subst (λ one. Served one None (λ gots. evaluate job state m gots)) is (jobs job state m))
          then
  plan_served evaluate jobs owes _ _ (duty.goes {job = job} {state = state} is) n = go n
    where
      go : (k : ℕ) → Served owes None (λ gots. spend k (λ m. evaluate job state m gots))
      go zero = spent owes None
      go (suc m) = subst (λ one. Served one None (λ gots. evaluate job state m gots)) is (jobs job state m)

  within_served : (plan : Meaning Job Want Got Outcome State) → KeepsDuties duties plan → (depth : ℕ) (job : Job) (state : State) (n : ℕ) →
      Served (duties.owes job) None (λ gots. eval_within plan depth job state n gots)
  within_served plan keeps zero job state n = spent (duties.owes job) None
  within_served plan keeps (suc depth) job state n =
      plan_served (eval_within plan depth) (within_served plan keeps depth) (duties.owes job) None (plan job state) (keeps job state) n

  pub eval_served : (plan : Meaning Job Want Got Outcome State) → KeepsDuties duties plan → (job : Job) (state : State) (n : ℕ) →
      Served (duties.owes job) None (eval plan job state n)
  unfolding eval
  eval_served plan keeps job state n = within_served plan keeps (suc n) job state n
