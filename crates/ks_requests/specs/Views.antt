-- Values of the code as the definitions have them.
use Rattle.std.specs.Prelude.{option_map}
use Rattle.ks_requests.specs.declared.inputs.Inputs.{Inputs as InputValues}
use Rattle.ks_requests.specs.declared.inputs.Texts.{Texts as TextValues}
use Rattle.ks_requests.specs.declared.sites.Site.{Site as SiteValue}
use Rattle.ks_requests.specs.Inputs.{Inputs, Texts, with_old}
use Rattle.ks_requests.specs.Sites.{Site}

abbrev pub seen_texts : TextValues → Texts
seen_texts t = record { kconfig = t.kconfig.items; dotconfig = t.dotconfig.items }

abbrev pub seen_inputs : InputValues → Inputs
seen_inputs i = with_old (seen_texts i.texts) (option_map (λ v. v.items) i.old)

abbrev pub seen_site : SiteValue → Site
seen_site s = (s.path.now, s.part)
