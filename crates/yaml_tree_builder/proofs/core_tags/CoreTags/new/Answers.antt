use Rattle.std.proofs.Common.{ap, ◌∙◌}
use Rattle.std.specs.Prelude.{Some}
use Rattle.yaml_definitions.specs.model.Tag.{null_tag, bool_tag, int_tag, float_tag, str_tag, seq_tag, map_tag}
use Rattle.yaml_store.specs.StoreGrows.{tags_of}
use Rattle.yaml_store.proofs.StoreLaws.{kept-both, kept-same}
use Rattle.yaml_tree_builder.proofs.TagLaws.{tag-kept, are-core}
use Rattle.yaml_tree_builder.proofs.core_tags.CoreTags.new.Goals as goal

pub returns-clause-core : goal.returns-clause-core
returns-clause-core c = λ good.
    let s1 = c.tag-2.new.self in
    let s2 = c.tag-4.new.self in
    let s3 = c.tag-6.new.self in
    let s4 = c.tag-8.new.self in
    let s5 = c.tag-10.new.self in
    let s6 = c.tag-11.new.self in
    let s7 = c.tag-12.new.self in
    let k1 = c.in_ok-nulls.ensures.kept good in
    let k2 = c.in_ok-bools.ensures.kept k1.good in
    let k3 = c.in_ok-ints.ensures.kept k2.good in
    let k4 = c.in_ok-floats.ensures.kept k3.good in
    let k5 = c.in_ok-strings.ensures.kept k4.good in
    let k6 = c.in_ok-sequences.ensures.kept k5.good in
    let k7 = c.in_ok-mappings.ensures.kept k6.good in
    let to7 = kept-same s7 k7.good in
    let to6 = kept-both s6 s7 s7 k7 to7 in
    let to5 = kept-both s5 s6 s7 k6 to6 in
    let to4 = kept-both s4 s5 s7 k5 to5 in
    let to3 = kept-both s3 s4 s7 k4 to4 in
    let to2 = kept-both s2 s3 s7 k3 to3 in
    let to1 = kept-both s1 s2 s7 k2 to2 in
    are-core (tags_of s7) _
    (tag-kept s1 s7 to1 c.in_ok-nulls.nulls null_tag (c.in_ok-nulls.ensures.is ∙ ap Some c.tag.ensures))
    (tag-kept s2 s7 to2 c.in_ok-bools.bools bool_tag (c.in_ok-bools.ensures.is ∙ ap Some c.tag-3.ensures))
    (tag-kept s3 s7 to3 c.in_ok-ints.ints int_tag (c.in_ok-ints.ensures.is ∙ ap Some c.tag-5.ensures))
    (tag-kept s4 s7 to4 c.in_ok-floats.floats float_tag (c.in_ok-floats.ensures.is ∙ ap Some c.tag-7.ensures))
    (tag-kept s5 s7 to5 c.in_ok-strings.strings str_tag (c.in_ok-strings.ensures.is ∙ ap Some c.tag-9.ensures))
    (tag-kept s6 s7 to6 c.in_ok-sequences.sequences seq_tag (c.in_ok-sequences.ensures.is ∙ ap Some c.default_tag.ensures))
    (tag-kept s7 s7 to7 c.in_ok-mappings.mappings map_tag (c.in_ok-mappings.ensures.is ∙ ap Some c.default_tag-2.ensures))
