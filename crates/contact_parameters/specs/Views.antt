-- What a struct of the code is as a plain value of `rules`. Definitions only.
use Rattle.rules.specs.Surface as rules
use Rattle.contact_parameters.specs.declared.surface.Surface.{Surface}

abbrev pub plain_surface : Surface → rules.Surface
plain_surface f = record { friction = f.friction; restitution = f.restitution; margins = f.margins; effective_speculative = f.effective_speculative }
