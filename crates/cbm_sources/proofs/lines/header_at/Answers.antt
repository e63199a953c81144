use Rattle.std.proofs.Common.{refl, ◌∙◌, sym}
use Rattle.cbm_sources.specs.Lynxes.{lynx_header_at}
use Rattle.cbm_sources.proofs.lines.header_at.Goals as goal

pub returns-in_err-stop : goal.returns-in_err-stop
unfolding lynx_header_at
returns-in_err-stop c = rw (← c.in_err-stop.ensures.value) c.from_residual.ensures

pub returns-then-not-is_signature : goal.returns-then-not-is_signature
unfolding lynx_header_at
returns-then-not-is_signature c = rw (← c.in_ok-stop.ensures.value, sym c.is_signature.ensures ∙ c.if-not-is_signature.true) refl

pub returns-in_err-blocks : goal.returns-in_err-blocks
unfolding lynx_header_at
returns-in_err-blocks c =
    rw (← c.in_ok-stop.ensures.value, sym c.is_signature.ensures ∙ c.if-not-is_signature.false, ← c.in_err-blocks.ensures) c.from_residual-in_err-blocks.ensures

pub returns-in_err-end : goal.returns-in_err-end
unfolding lynx_header_at
returns-in_err-end c =
    rw (← c.in_ok-stop.ensures.value, sym c.is_signature.ensures ∙ c.if-not-is_signature.false, ← c.in_ok-blocks.ensures, ← c.in_err-end.ensures.value)
    c.from_residual-in_err-end.ensures

pub returns-in_err-count : goal.returns-in_err-count
unfolding lynx_header_at
returns-in_err-count c =
    rw (
      ← c.in_ok-stop.ensures.value,
      sym c.is_signature.ensures ∙ c.if-not-is_signature.false,
      ← c.in_ok-blocks.ensures,
      ← c.in_ok-end.ensures.value,
      ← c.in_err-count.ensures,
    ) c.from_residual-in_err-count.ensures

pub returns : goal.returns
unfolding lynx_header_at
returns c =
    rw (
      ← c.in_ok-stop.ensures.value,
      sym c.is_signature.ensures ∙ c.if-not-is_signature.false,
      ← c.in_ok-blocks.ensures,
      ← c.in_ok-end.ensures.value,
      ← c.in_ok-count.ensures,
    ) refl
