-- What holds of each element of a list after those before it.
use Rattle.std.proofs.Common.{◌≡◌, ◌∙◌, List, [], ◌∷◌, ◌++◌, ap, sym, subst, append_assoc, append-nil}
use Rattle.std.specs.Bool.{⊤}

module _ {X : Type 0} where
  abbrev pub Every : (X → Type 0) → List X → Type 0
  Every P [] = ⊤
  Every P (x ∷ xs) = P x × Every P xs

  pub every-on : (P Q : X → Type 0) → ((x : X) → P x → Q x) → (xs : List X) → Every P xs → Every Q xs
  every-on P Q on [] every = tt
  every-on P Q on (x ∷ xs) every = (on x every.0, every-on P Q on xs every.1)

  pub every-append : (P : X → Type 0) (xs ys : List X) → Every P xs → Every P ys → Every P (xs ++ ys)
  every-append P [] ys first second = second
  every-append P (x ∷ xs) ys first second = (first.0, every-append P xs ys first.1 second)

module _ {X : Type 0} (P : List X → X → Type 0) where
  abbrev pub Along : (seen xs : List X) → Type 0
  Along seen [] = ⊤
  Along seen (x ∷ xs) = P seen x × Along (seen ++ x ∷ []) xs

  pub along-append : (seen xs ys : List X) → Along seen xs → Along (seen ++ xs) ys → Along seen (xs ++ ys)
  along-append seen [] ys first second = subst (λ s. Along s ys) (append-nil seen) second
  along-append seen (x ∷ xs) ys first second =
      (first.0, along-append (seen ++ x ∷ []) xs ys first.1 (subst (λ s. Along s ys) (sym (append_assoc seen (x ∷ []) xs)) second))

  pub at_cut : (seen xs before after : List X) (x : X) → Along seen xs → xs ≡ before ++ x ∷ after → P (seen ++ before) x
  at_cut seen [] [] after x along is = absurd (cc is)
  at_cut seen [] (b ∷ before) after x along is = absurd (cc is)
  at_cut seen (y ∷ ys) [] after x along is =
      let same : y ≡ x = cc is in
      subst (λ s. P s x) (sym (append-nil seen)) (subst (λ one. P seen one) same along.0)
  at_cut seen (y ∷ ys) (b ∷ before) after x along is =
      let same : y ≡ b = cc is in
      let rest : ys ≡ before ++ x ∷ after = cc is in
      subst (λ s. P s x) (append_assoc seen (y ∷ []) before ∙ ap (λ one. seen ++ one ∷ before) same)
      (at_cut (seen ++ y ∷ []) ys before after x along.1 rest)

  -- what goes on holding after more
  pub along-every : ((seen more : List X) (x : X) → P seen x → P (seen ++ more) x) → (seen xs : List X) → Every (P seen) xs → Along seen xs
  along-every on seen [] every = tt
  along-every on seen (x ∷ xs) every =
      (every.0, along-every on (seen ++ x ∷ []) xs (every-on (P seen) (P (seen ++ x ∷ [])) (λ y. on seen (x ∷ []) y) xs every.1))
