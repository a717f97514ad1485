-- What a text with room for a fixed number of bytes holds after it was written to.
use Rattle.std.proofs.Common.{◌≡◌, ◌∙◌, ℕ, List, [], ◌∷◌, ◌++◌, ap, append-nil, append_assoc, subst, sym}
use Rattle.std.specs.Fmt.{WritesInCalls}
use Rattle.std.specs.Fmt.InlineText.{AppendsIfIntact, IsIntact, inline_text}
use Rattle.std.specs.List.{FoldsTo, concat}
use Rattle.std.specs.declared.fmt.InlineText.{InlineText}

module _ {n : ℕ} where
  -- several writes append what they wrote together
  after_calls : (s : InlineText n) (parts : List (List ℕ)) (t : InlineText n) → FoldsTo AppendsIfIntact s parts t → AppendsIfIntact s (concat parts) t
  after_calls s [] t same intact = (subst IsIntact same intact, ap inline_text (sym same) ∙ sym (append-nil (inline_text s)))
  after_calls s (x ∷ parts) t calls intact =
      let first = calls.1 intact in
      let rest = after_calls calls.0 parts t calls.2 first.0 in
      (rest.0, rest.1 ∙ ap (λ l. l ++ concat parts) first.1 ∙ append_assoc (inline_text s) x (concat parts))

  -- what was empty holds what was written
  pub holds_written : (s t : InlineText n) (text : List ℕ) → IsIntact s → inline_text s ≡ [] → WritesInCalls AppendsIfIntact s text t → inline_text t ≡ text
  holds_written s t text intact empty wrote =
      subst (λ l. l ≡ text) (sym (after_calls s wrote.parts t wrote.calls intact).1) (ap (λ l. l ++ concat wrote.parts) empty ∙ wrote.whole)
