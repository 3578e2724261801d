-- Pairs that move to a map, from the first on.
use Rattle.std.proofs.Common.{◌≡◌, ◌∙◌, List, [], ◌∷◌, ◌++◌, None, append_assoc, append-nil, sym, ap}
use Rattle.std.proofs.Common.{subst}
use Rattle.std.proofs.lemmas.Cmp.{nat_list_eq_equiv}
use Rattle.indexmap.proofs.MapLemmas.{absent_before}
use Rattle.tt_names.specs.Names.{Name, NamesDiffer, under}

module _ {X : Type 0} (done rest all : List (Name × X)) (is : done ++ rest ≡ all) where
  module _ (pair : Name × X) (later : List (Name × X)) (next : rest ≡ pair ∷ later) where
    pub next_is_new : NamesDiffer all → under done pair.0 ≡ None
    next_is_new differ = absent_before nat_list_eq_equiv done later pair (subst NamesDiffer (sym is ∙ ap (λ left. done ++ left) next) differ)

    pub next_moved : (now : List (Name × X)) → now ≡ done ++ pair ∷ [] → now ++ later ≡ all
    next_moved now added =
        ap (λ front. front ++ later) added ∙ append_assoc done (pair ∷ []) later ∙ ap (λ left. done ++ left) (sym next) ∙ is

  pub all_moved : rest ≡ [] → done ≡ all
  all_moved none = sym (append-nil done) ∙ ap (λ left. done ++ left) (sym none) ∙ is
